-- What both walks begin with: the type arguments, the receiver, where its two fields lie, and what a request says of its numbers.
use Rattle.std.proofs.Common.{◌≡◌, ℕ, ◌+◌, [], ◌∷◌}
use mir.Syntax.{Ty, Args, a_type, dnil, dcons}
use prog.Memory.{size, align, capped, up}
use denote.Builtin.{usize, RawPtr, RefOf}
use denote.Param.{bounded, param}
use denote.Signature.{Slot, plain}
use Rattle.std.proofs.alloc.Calls.{Al, α}
use Rattle.dq_testing.specs.contracts.refusing_heap.RefusingHeap as heap

module _ (Z : Al) where
  abbrev pub arguments : Args
  arguments = bounded (a_type ∷ []) (Z.row, tt) (dcons Z.d (dcons Z.drops dnil))

  abbrev pub receiver : Slot 2
  receiver = RefOf (0 ∷ []) tt (plain (λ _. heap.the_row (param 0 Z.row))) (λ _. tt)

  -- where the fields lie: `inner` first, and behind it `grants`, which is aligned to 8 since it holds a u64
  abbrev pub inner_at : ℕ × ℕ → ℕ × ℕ
  inner_at p = (p.0, p.1 + up (align (α Z)) 0)

  abbrev pub grants_at : ℕ × ℕ → ℕ × ℕ
  grants_at p = (p.0, p.1 + up 8 (up (align (α Z)) 0 + size (α Z)))

abbrev pub number : Slot 2
number = plain (λ _. usize)

abbrev pub pointer : Slot 2
pointer = plain (λ _. RawPtr)

-- the size and the alignment that a request names are those of a type
abbrev pub Asked : Ty → ℕ → ℕ → Type 0
Asked τ n a = (capped (size τ) ≡ n) × (capped (align τ) ≡ a)
