-- What several calls together took from a source or appended to a sink.
use Rattle.std.proofs.Common.{◌≡◌, ℕ, ◌+◌, ◌-◌, ◌<◌, ◌≤◌, min, List, [], ◌++◌, length, take, drop, Option, sym, arith, length-append, length-drop}
use Rattle.std.proofs.KnownBytes.{Appends-trans, Consumes-trans}
use Rattle.std.proofs.lemmas.List.{drop-drop, take-append-drop, take_rest}
use Rattle.std.proofs.Math.ListN.{drop_of_length-le}
use Rattle.std.proofs.Math.Seq.{take-add}
use Rattle.std.specs.Io.KnownBytes.{Appends, Consumes}
use Rattle.jc_io.specs.Moved.{TakesAtMost, TakesCount}

pub TakesCount-after : (a b c : Option (List ℕ)) (xs : List ℕ) (n m : ℕ) → Consumes a b xs → TakesCount b c n → length xs + n ≡ m → TakesCount a c m
TakesCount-after a b c xs n m before t e = record {
  taken = xs ++ t.taken;
  consumes = Consumes-trans a b c xs t.taken before t.consumes;
  counted = let counted : length t.taken ≡ n = t.counted in rw length-append (omega arith);
}

pub TakesAtMost-after : (a b c : Option (List ℕ)) (xs : List ℕ) (n m : ℕ) → Consumes a b xs → TakesAtMost b c n → length xs + n ≤ m → TakesAtMost a c m
TakesAtMost-after a b c xs n m before t e = record {
  taken = xs ++ t.taken;
  consumes = Consumes-trans a b c xs t.taken before t.consumes;
  within = let within : length t.taken ≤ n = t.within in rw length-append (omega arith);
}

-- the first i bytes were written, and then n of the rest
pub written_more : (a b c : Option (List ℕ)) (bytes : List ℕ) (i n : ℕ) → Appends a b (take i bytes) → Appends b c (take n (take (length bytes - i) (drop i bytes))) → Appends a c (take (i + n) bytes)
written_more a b c bytes i n before now = rw (take-add i n bytes) (Appends-trans a b c _ _ before (rw (take_rest bytes i) at now))

-- n bytes of those from i on were copied, as many as a piece may have and there is room for
pub copied_leave : (bytes from given : List ℕ) (i n most : ℕ) → from ≡ drop i bytes → take n given ≡ take n from → 0 < most → n ≡ min most (min (length given) (length from))
    → (drop i bytes ≡ take n given ++ drop (i + n) bytes) × (n ≡ 0 → 0 < length given → drop (i + n) bytes ≡ [])
copied_leave bytes from given i n most is_rest copied moves count =
    let whole : take n (drop i bytes) ++ drop (i + n) bytes ≡ drop i bytes = rw (← drop-drop n i bytes) (take-append-drop n (drop i bytes)) in
    let len : length from ≡ length bytes - i = rw is_rest (length-drop i bytes) in
    (rw (copied, is_rest) (sym whole), λ none room. drop_of_length-le bytes (omega arith))
