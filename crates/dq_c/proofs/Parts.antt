-- A part, whatever lies behind its pointer: its struct owns nothing, or what a box on the heap owns.
--     Part             the row behind the pointer with its laws, and the struct: its name, its values, their fields
--     R, E, Handle     that row at its one machine type, the box of it on the heap, and the handle of that box
--     W, owned         the part as a row, and what a part of these three fields owns
--     some_of          an option that is some has a value
--     Met              a function of this code meets this contract, under any name
-- `Parts/` walks the code of a part's functions once for all parts.
use mathlib.Core.Path.{◌≡◌, refl}
use mathlib.Core.List.{List, [], ◌∷◌}
use seplogic.Ra.Ura.{Ura}
use mir.Syntax.{Sym, Fn, Callee, impl, tnil, dnil}
use mir.Val.{Val}
use base.Fml.{Fml, fsep}
use base.Stored.{Coded}
use prog.Model.{Model}
use prog.Wp.{Closed}
use types.Logic.{Logic}
use contract.Running.{Running, tables}
use denote.Exit.{hidden, under}
use denote.Memory.{lone}
use denote.Param.Laws.{Laws}
use denote.RattleType.{RattleType, Denots}
use denote.RawPtr.{Ptr}
use denote.Struct.Field.{Field, RawPtr-field, rows}
use denote.Struct.Owning.{Owning, wholly}
use denote.Struct.Owning as Owning
use denote.Struct.Struct.{Shape, Struct, exits_of}
use denote.Struct.Values.{intos}
use denote.Triple.Clauses.{closing, Clauses, Ended}
use denote.Triple.Spec.{Meets}
use Rattle.std.specs.Global.{Global}
use Rattle.std.specs.Prelude.{Option, Some, None, IsSome}
use Rattle.std.proofs.lemmas.Bool.{false≢true}
use Rattle.std_alloc.proofs.BoxSteps.Form.{Bx}
use Rattle.std_heap.specs.contracts.Global as Heap
use Rattle.std_heap.specs.contracts.GlobalAllocator.TheImpl.{ghosts, dict}
use Rattle.std_heap.proofs.Global.TheLaws as heap
use Rattle.dq_c.specs.Owned.{heap_owns}
use Rattle.dq_c.specs.contracts.handle.heap_handle.HeapHandle as HeapHandle
pub mod Empty
pub mod Lends
pub mod Moves
pub mod Sends

-- a row that is one machine value, whatever row it is of
abbrev pub at_one : RattleType → RattleType
at_one R = record R { mir = lone R.mir ∷ [] }

-- the pointer, the allocator, and what lies behind the pointer
abbrev pub Fields : Type 0 → Type 0
Fields X = Ptr × (Global × Option X)

pub record Part : Type 2 where
  pub behind : RattleType
  pub laws : Laws (at_one behind)
  pub name : Sym
  pub D : Type 0
  pub ptr : D → Ptr
  pub alloc : D → Global
  pub value : D → Option behind.Denot
  pub made : Ptr → Global → Option behind.Denot → D
  pub is_made : (p : Ptr) (a : Global) (o : Option behind.Denot) → ◌≡◌ {A = Fields behind.Denot} (ptr (made p a o), (alloc (made p a o), value (made p a o))) (p, (a, o))
  pub coded : Coded D

pub some_of : {X : Type 0} (o : Option X) → IsSome o → (x : X) × (o ≡ Some x)
some_of None f = absurd (false≢true f)
some_of (Some x) t = (x, refl)

abbrev pub Met : {M : Type 1} {𝓤 : Ura M} (𝓛 : Logic 𝓤) → Fn → (T : Ended) → Clauses 𝓤 T → Type 2
Met {𝓤 = 𝓤} 𝓛 code T c = (𝓜 : Model 𝓤 𝓛.H) (𝓡 : Running 𝓤 𝓛.H 𝓜) (k : Callee)
    → Closed 𝓤 𝓛.H (tables 𝓤 𝓛.H 𝓜 𝓡 𝓡.env).C (tables 𝓤 𝓛.H 𝓜 𝓡 𝓡.env).Λ k code → Meets 𝓛 T.signature ((tables 𝓤 𝓛.H 𝓜 𝓡 𝓡.env).C k) (closing 𝓛 T c)

module _ (K : Part) where
  abbrev pub R : RattleType
  R = at_one K.behind

  abbrev pub E : Bx
  E = record {
    row = R;
    laws = K.laws;
    al = record {
      row = Heap.the_row;
      laws = heap.the_row_laws;
      g = ghosts;
      d = dict;
      drops = impl [] tnil dnil;
    };
  }

  abbrev pub parts : List Field
  parts = RawPtr-field ∷ Heap.the_field ∷ []

  abbrev pub shape : Shape
  shape = record { name = K.name; args = []; types = []; fields = rows parts }

  abbrev pub tuple : K.D → Denots (rows parts)
  tuple d = intos parts (K.ptr d, (K.alloc d, tt))

  abbrev pub beside : K.D → Fml
  beside d = heap_owns R (K.alloc d) (K.ptr d) (K.value d)

  abbrev pub owning : Owning
  owning = record {
    name = K.name;
    args = [];
    types = [];
    parts = parts;
    D = K.D;
    as_values = λ d. (K.ptr d, (K.alloc d, tt));
    coded = K.coded;
    heap = beside;
    exit = λ k. hidden (under tuple (exits_of k (rows parts)));
    shr_at = wholly (Struct shape) tuple beside;
  }

  abbrev pub W : RattleType
  W = Owning.row owning

  abbrev pub owned : Fields R.Denot → List Val → Fml
  owned t vs = fsep ((Struct shape).own_val (intos parts (t.0, (t.1.0, tt))) vs) (heap_owns R t.1.0 t.0 t.1.1)

  abbrev pub Handle : RattleType
  Handle = HeapHandle.the_row R Heap.the_row ghosts
