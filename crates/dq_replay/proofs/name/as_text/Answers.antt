use Rattle.std.proofs.Common.{◌≡◌, ℕ, ◌<◌, true, List, [], ◌∷◌, zero, suc, refl, arith}
use Rattle.std.specs.Prelude.{Result, Ok, Err, IsOk, MatchResult}
use Rattle.std.specs.Str.{IsAscii}
use Rattle.std.specs.List.{list_all}
use Rattle.std.proofs.lemmas.Bool.{and_parts}
use Rattle.std.proofs.lemmas.Bool.Decides.{nat_tests}
use Rattle.std.proofs.lemmas.Str.{IsUtf8-from_ascii}
use Rattle.dq_replay.specs.Text.{is_name_byte}
use Rattle.dq_replay.proofs.name.as_text.Goals as goal

name_byte_small : (b : ℕ) → is_name_byte b ≡ true → b < 128
name_byte_small b is = grind (arith, nat_tests)

name_is_ascii : (token : List ℕ) → list_all is_name_byte token ≡ true → IsAscii token
name_is_ascii [] all i = omega arith
name_is_ascii (b ∷ bs) all zero = name_byte_small b (and_parts (is_name_byte b) (list_all is_name_byte bs) all).0
name_is_ascii (b ∷ bs) all (suc i) = name_is_ascii bs (and_parts (is_name_byte b) (list_all is_name_byte bs) all).1 i

not_refused : {T E : Type 0} (r : Result T E) (P : T → Type 0) (Q : E → Type 0) → MatchResult r P Q → ((e : E) → Q e → ⊥) → IsOk r
not_refused (Ok x) P Q either never = refl
not_refused (Err e) P Q either never = absurd (never e either)

pub unwrap-requires : goal.unwrap-requires
unwrap-requires c = not_refused c.from_utf8.result _ _ c.from_utf8.ensures.cases (λ e bad. bad.0 (IsUtf8-from_ascii c.args.token.now (name_is_ascii c.args.token.now c.requires)))
