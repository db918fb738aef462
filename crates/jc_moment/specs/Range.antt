-- The range of the moments: the whole seconds from 1970-01-01T00:00:00Z to 9999-12-31T23:59:59Z.
--     end_of_moments       the first second that is past the last moment
--     IsMoment seconds     that many seconds after 1970-01-01T00:00:00Z is a moment
--     as_moment second     the second, where it is a moment: past the last one nothing ever comes
use Rattle.std.specs.Prelude.{ℕ, ◌<◌, nat_lt, Option, Some, None, if◌then◌else◌}

-- The first second that is past the last moment: 10000-01-01T00:00:00Z.
abbrev pub end_of_moments : ℕ
end_of_moments = 253402300800

-- `seconds` after 1970-01-01T00:00:00Z is a moment.
abbrev pub IsMoment : ℕ → Type 0
IsMoment seconds = seconds < end_of_moments

-- The second, where it is not past the last moment: past it nothing ever comes.
abbrev pub as_moment : Option ℕ → Option ℕ
as_moment None = None
as_moment (Some second) = if nat_lt second end_of_moments then Some second else None
