-- What goes out by pages.
use Rattle.std.proofs.Common.{◌≡◌, ℕ, ◌+◌, List, [], ◌++◌, length, take, Option, None, Some, sym, ap, ◌∙◌, subst, arith, append_assoc, append-nil, length-append}
use Rattle.std.proofs.lemmas.List.{take-append-le}
use Rattle.std.proofs.Math.Seq.{take-append-add, take-length}
use Rattle.std.proofs.KnownBytes.{Appends-nil, Appends-trans}
use Rattle.std.specs.Io.KnownBytes.{Appends, Keeps}
use Rattle.jc_io.specs.Moved.{AppendsFront}
use Rattle.jc_report.specs.Sent.{Sends}

-- A front of a text is one of a longer text.
pub front-longer : (a b : Option (List ℕ)) (xs ys : List ℕ) → AppendsFront a b xs → AppendsFront a b (xs ++ ys)
front-longer a b xs ys front =
    let within = front.within in
    let count : length (xs ++ ys) ≡ length xs + length ys = length-append xs ys in
    record {
      count = front.count;
      within = omega (arith, within, count);
      appends = subst (Appends a b) (sym (take-append-le front.count xs ys within)) front.appends;
    }

-- Behind a text that was written, a front of the next one.
pub front-behind : (a b c : Option (List ℕ)) (xs ys : List ℕ) → Appends a b xs → AppendsFront b c ys → AppendsFront a c (xs ++ ys)
front-behind a b c xs ys sent front =
    let within = front.within in
    let count : length (xs ++ ys) ≡ length xs + length ys = length-append xs ys in
    record {
      count = length xs + front.count;
      within = omega (arith, within, count);
      appends = subst (Appends a c) (sym (take-append-add xs ys front.count)) (Appends-trans a b c xs (take front.count ys) sent front.appends);
    }

-- ---- pages

-- Nothing was put, and the page stays.
pub stays : (a : Option (List ℕ)) (page : List ℕ) → Sends a page a page []
stays a page = record { sent = []; appends = Appends-nil a; rest = append-nil page }

-- A text was put on the page, and nothing went out.
pub put : (a : Option (List ℕ)) (page more text : List ℕ) → more ≡ page ++ text → Sends a page a more text
put a page more text is = record { sent = []; appends = Appends-nil a; rest = sym is }

-- The page went out.
pub went : (a b : Option (List ℕ)) (page blank : List ℕ) → Appends a b page → blank ≡ [] → Sends a page b blank []
went a b page blank sent is = record { sent = page; appends = sent; rest = ap (λ l. page ++ l) (sym is) }

-- The page went out, and the text behind it.
pub went-both : (a b c : Option (List ℕ)) (page blank text : List ℕ) → Appends a b page → blank ≡ [] → Appends b c text → Sends a page c blank text
went-both a b c page blank text first is second = record {
  sent = page ++ text;
  appends = Appends-trans a b c page text first second;
  rest = sym (append-nil (page ++ text)) ∙ ap (λ l. (page ++ text) ++ l) (sym is);
}

-- One text after the other.
pub both : (a b c : Option (List ℕ)) (p q r xs ys : List ℕ) → Sends a p b q xs → Sends b q c r ys → Sends a p c r (xs ++ ys)
both a b c p q r xs ys first second = record {
  sent = first.sent ++ second.sent;
  appends = Appends-trans a b c first.sent second.sent first.appends second.appends;
  rest =
      sym (append_assoc p xs ys)
      ∙ ap (λ (l : List ℕ). l ++ ys) first.rest
      ∙ append_assoc first.sent q ys
      ∙ ap (λ (l : List ℕ). first.sent ++ l) second.rest
      ∙ sym (append_assoc first.sent second.sent r);
}

-- Where the second fails, a front of both went out.
pub both-front : (a b c : Option (List ℕ)) (p q xs ys : List ℕ) → Sends a p b q xs → AppendsFront b c (q ++ ys) → AppendsFront a c (p ++ (xs ++ ys))
both-front a b c p q xs ys first second =
    let whole : first.sent ++ (q ++ ys) ≡ p ++ (xs ++ ys) =
    sym (append_assoc first.sent q ys) ∙ ap (λ (l : List ℕ). l ++ ys) (sym first.rest) ∙ append_assoc p xs ys in
    subst (AppendsFront a c) whole (front-behind a b c first.sent (q ++ ys) first.appends second)

-- ---- a whole text

Appends-kept : (a b c : Option (List ℕ)) (xs : List ℕ) → Appends a b xs → Keeps b c → Appends a c xs
Appends-kept None b c xs p q = tt
Appends-kept (Some x) None c xs p q = absurd p
Appends-kept (Some x) (Some y) None xs p q = absurd q
Appends-kept (Some x) (Some y) (Some z) xs p q = q ∙ p

-- A text, another behind it, and the page at last: all went out.
pub all-went : (a b c d : Option (List ℕ)) (p q r xs ys : List ℕ) → p ≡ [] → Sends a p b q xs → Sends b q c r ys → Appends c d r → Appends a d (xs ++ ys)
all-went a b c d p q r xs ys blank first second last =
    let whole = both a b c p q r xs ys first second in
    subst (Appends a d) (sym whole.rest ∙ ap (λ l. l ++ (xs ++ ys)) blank) (Appends-trans a c d whole.sent r whole.appends last)

-- The first fails.
pub first-failed : (a b : Option (List ℕ)) (p xs ys : List ℕ) → p ≡ [] → AppendsFront a b (p ++ xs) → AppendsFront a b (xs ++ ys)
first-failed a b p xs ys blank front =
    front-longer a b xs ys (subst (λ (l : List ℕ). AppendsFront a b (l ++ xs)) blank front)

-- The second fails.
pub second-failed : (a b c : Option (List ℕ)) (p q xs ys : List ℕ) → p ≡ [] → Sends a p b q xs → AppendsFront b c (q ++ ys) → AppendsFront a c (xs ++ ys)
second-failed a b c p q xs ys blank first second =
    subst (λ (l : List ℕ). AppendsFront a c (l ++ (xs ++ ys))) blank (both-front a b c p q xs ys first second)

-- The last page fails.
pub last-failed : (a b c d : Option (List ℕ)) (p q r xs ys : List ℕ) → p ≡ [] → Sends a p b q xs → Sends b q c r ys → AppendsFront c d r → AppendsFront a d (xs ++ ys)
last-failed a b c d p q r xs ys blank first second last =
    let whole = both a b c p q r xs ys first second in
    subst (AppendsFront a d) (sym whole.rest ∙ ap (λ l. l ++ (xs ++ ys)) blank) (front-behind a c d whole.sent r whole.appends last)

-- All went out, and nothing came behind: so a front of it did.
pub all-front : (a b c : Option (List ℕ)) (xs : List ℕ) → Appends a b xs → Keeps b c → AppendsFront a c xs
all-front a b c xs sent kept = record {
  count = length xs;
  within = omega arith;
  appends = subst (Appends a c) (sym (take-length xs)) (Appends-kept a b c xs sent kept);
}
