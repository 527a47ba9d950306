-- What it means that a contract leaves one answer, and that something holds of every answer. κs are the lifetimes of what is lent, args the arguments
-- with each lent buffer as it came, z the result, w each buffer as it is left.
use Rattle.std.specs.Prelude.{◌≡◌, List, ℕ}
use contract.Lifetimes.{Lfts}
use borrow.Fn.Kinds.{ParamKind, ResultKind, Out, Dens, res_t, ended_of}
use denote.Triple.Clauses.{Lasts, at_exit}

module _ (n : ℕ) (params : List (ParamKind n)) (result : ResultKind n) (Post : Out n params result) where
  -- a call may end so
  abbrev pub Allows : (κs : Lfts n) (args : Dens κs params) → (res_t result κs).Denot → Lasts (ended_of n params result) κs args → Type 0
  Allows κs args z w = Post κs args z (at_exit (ended_of n params result) κs args w)

  -- of the same arguments the contract allows one result, and one content of each buffer as the function returns
  abbrev pub Single : Type 0
  Single = (κs : Lfts n) (args : Dens κs params) (z z' : (res_t result κs).Denot) (w w' : Lasts (ended_of n params result) κs args) →
      Allows κs args z w → Allows κs args z' w' → (z ≡ z') × (w ≡ w')

  -- whatever the contract allows of any arguments has a property
  module _ (Property : (κs : Lfts n) (args : Dens κs params) → (res_t result κs).Denot → Lasts (ended_of n params result) κs args → Type 0) where
    abbrev pub Always : Type 0
    Always = (κs : Lfts n) (args : Dens κs params) (z : (res_t result κs).Denot) (w : Lasts (ended_of n params result) κs args) → Allows κs args z w → Property κs args z w

    -- both
    abbrev pub Settled : Type 0
    Settled = Single × Always
