-- What one reads of a filing in which an index was linked or unlinked.

use Rattle.std.proofs.Common.{◌≡◌, ℕ, ◌<◌, length, get_or, refl, None, Some}
use Rattle.std.proofs.lemmas.List.{get_or-set_same, get_or-set_other}
use Rattle.dq_wheel.specs.State.{Filing, filed_at, linked, unlinked, OthersStayFiled}

-- what a filing says where index i was filed at f
pub record HasLinked (old new : Filing) (i f : ℕ) : Type 0 where
  pub filed : filed_at new.filed i ≡ Some f
  pub unmoved : get_or new.moves i 0 ≡ 0
  pub others : OthersStayFiled old.filed new.filed i
  pub tick : new.tick ≡ old.tick

pub has_linked : (old new : Filing) (i f : ℕ) → i < length old.filed → i < length old.moves → new ≡ linked old i f → HasLinked old new i f
has_linked old new i f i_in i_moved is =
    rw is (record {
      filed = get_or-set_same old.filed i (Some f) None i_in;
      unmoved = get_or-set_same old.moves i 0 0 i_moved;
      others = λ j d. get_or-set_other old.filed i j (Some f) None d;
      tick = refl;
    })

-- what a filing says where index i was unlinked
pub record HasUnlinked (old new : Filing) (i : ℕ) : Type 0 where
  pub loose : filed_at new.filed i ≡ None
  pub others : OthersStayFiled old.filed new.filed i
  pub tick : new.tick ≡ old.tick

pub has_unlinked : (old new : Filing) (i : ℕ) → i < length old.filed → new ≡ unlinked old i → HasUnlinked old new i
has_unlinked old new i i_in is =
    rw is (record {
      loose = get_or-set_same old.filed i None None i_in;
      others = λ j d. get_or-set_other old.filed i j None None d;
      tick = refl;
    })
