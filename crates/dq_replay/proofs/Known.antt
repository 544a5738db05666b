-- Lemmas on the known bytes of readers and writers.
use Rattle.std.proofs.Common.{ℕ, ◌+◌, List, [], ◌++◌, take, drop, refl, ap, sym, ◌∙◌, append_assoc}
use Rattle.std.specs.Prelude.{Option, Some, None}
use Rattle.std.specs.Io.KnownBytes.{Keeps, Appends, Consumes}
use Rattle.std.proofs.lemmas.List.{append-nil}
use Rattle.std.proofs.Math.Seq.{take-add}

pub appends_none : (a : Option (List ℕ)) → Appends a a []
appends_none None = tt
appends_none (Some xs) = sym (append-nil xs)

pub appends_two : (a b c : Option (List ℕ)) (xs ys : List ℕ) → Appends a b xs → Appends b c ys → Appends a c (xs ++ ys)
appends_two None b c xs ys p q = tt
appends_two (Some w) None c xs ys p q = absurd p
appends_two (Some w) (Some v) None xs ys p q = absurd q
appends_two (Some w) (Some v) (Some u) xs ys p q = q ∙ ap (λ v. v ++ ys) p ∙ append_assoc w xs ys

pub consumes_none : (a : Option (List ℕ)) → Consumes a a []
consumes_none None = tt
consumes_none (Some xs) = refl

pub consumes_two : (a b c : Option (List ℕ)) (xs ys : List ℕ) → Consumes a b xs → Consumes b c ys → Consumes a c (xs ++ ys)
consumes_two None b c xs ys p q = tt
consumes_two (Some w) None c xs ys p q = absurd p
consumes_two (Some w) (Some v) None xs ys p q = absurd q
consumes_two (Some w) (Some v) (Some u) xs ys p q = p ∙ ap (λ v. xs ++ v) q ∙ sym (append_assoc xs ys u)

-- the front of a text was written, and then the front of the rest
pub appends_more : (a b c : Option (List ℕ)) (text : List ℕ) (k n : ℕ) → Appends a b (take k text) → Appends b c (take n (drop k text)) → Appends a c (take (k + n) text)
appends_more a b c text k n p q = rw (take-add k n text) (appends_two a b c (take k text) (take n (drop k text)) p q)
