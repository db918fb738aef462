-- The forms of names (RFC 1123), as Kubernetes bounds them.
--     is_part s          lower-case letters, digits and `-`, with a letter or digit at both ends
--     is_label s         a part of 1 to 63 bytes
--     is_subdomain s     parts joined by points, 1 to 63 bytes together
use Rattle.std.specs.Prelude.{ℕ, ◌-◌, List, Bool, false, ◌&&◌, ◌||◌, ◌==◌, nat_le, nat_lt, length, slice_get}
use Rattle.std.specs.Option.{option_map_or}
use Rattle.std.specs.List.{list_all, slice_split}

-- a lower-case letter or a digit
abbrev pub is_plain : ℕ → Bool
is_plain b = (nat_le 97 b && nat_le b 122) || (nat_le 48 b && nat_le b 57)

unfoldable pub is_part : List ℕ → Bool
is_part s =
    list_all (λ b. is_plain b || b == 45) s
    && (option_map_or is_plain (slice_get s 0) false && option_map_or is_plain (slice_get s (length s - 1)) false)

-- a name has 1 to 63 bytes
unfoldable pub has_length_of_name : List ℕ → Bool
has_length_of_name s = nat_lt 0 (length s) && nat_le (length s) 63

abbrev pub is_label : List ℕ → Bool
is_label s = has_length_of_name s && is_part s

abbrev pub is_subdomain : List ℕ → Bool
is_subdomain s = has_length_of_name s && list_all is_part (slice_split (λ b. b == 46) s)
