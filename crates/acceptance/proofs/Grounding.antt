-- How a refusal that is worked out by tests in their order is brought under a table of grounds (specs/Grounds.antt): each row that holds is the
-- refusal, and where something is refused some row holds.
use mathlib.Core.Path.{◌≡◌, refl, sym, ap, ◌∙◌}
use mathlib.Core.Bool.{Bool, true, false, cond}
use Prim.Native.Nat.{ℕ, ◌<◌}
use native.Mathlib.Omega.{arith}
use borrow.Author.Tests.{ne_eqb}
use lib.Dec.{eqb}
use Rattle.record.specs.Refusals.{none, refused, refused_if, ◌then◌}
use Rattle.record.specs.declared.Refusal.{Refusal}
use Rattle.record.proofs.RefusalLaws.{refusal_stands, none_gives_way}
use Rattle.acceptance.specs.Grounds.{NoRow, Grounded}

-- nothing is refused, or the refusal has a number and its row holds
pub data Decided (Row : ℕ → ℕ → Type 0) (r : Refusal) : Type 0 where
  nothing : r ≡ none → Decided Row r
  something : (r.number ≡ 0 → ⊥) → Row r.number r.place → Decided Row r

-- the row of n and p is the refusal
abbrev pub Stands : ℕ → ℕ → Refusal → Type 0
Stands n p r = (n ≡ 0 → ⊥) × (r ≡ refused n p)

-- a table and a refusal agree
pub record Agrees (Row : ℕ → ℕ → Type 0) (r : Refusal) : Type 0 where
  pub stands : {n p : ℕ} → Row n p → Stands n p r
  pub decided : Decided Row r

-- ---- what a test in the order decides

module _ {Row : ℕ → ℕ → Type 0} (t : Bool) (n p : ℕ) (numbered : 0 < n) (here : t ≡ true → Row n p) where
  -- the last test
  pub decide_last : Decided Row (refused_if t n p)
  decide_last = by_test t refl
    where
      by_test : (b : Bool) → t ≡ b → Decided Row (refused_if b n p)
      by_test true e = something (λ z. omega arith) (here e)
      by_test false e = nothing refl

  -- a test before others
  pub decide : (s : Refusal) → (t ≡ false → Decided Row s) → Decided Row (refused_if t n p then s)
  decide s later = by_test t refl
    where
      by_test : (b : Bool) → t ≡ b → Decided Row (refused_if b n p then s)
      by_test true e = rw (ne_eqb n 0 (λ z. omega arith)) (something (λ z. omega arith) (here e))
      by_test false e = later e

-- an order of its own before others, which decide where it refuses nothing
pub decide_after : {Row : ℕ → ℕ → Type 0} (r s : Refusal) → Decided Row r → (r ≡ none → Decided Row s) → Decided Row (r then s)
decide_after r s (nothing e) later = rw e (later e)
decide_after r s (something some row) later = rw (ne_eqb r.number 0 some) (something some row)

-- the same by rows of another table
pub decided_by : {Row Other : ℕ → ℕ → Type 0} {r : Refusal} → ((n p : ℕ) → Row n p → Other n p) → Decided Row r → Decided Other r
decided_by turn (nothing e) = nothing e
decided_by turn (something some row) = something some (turn _ _ row)

-- ---- what stands in an order

module _ {n p : ℕ} (r s : Refusal) where
  pub stands_first : Stands n p r → Stands n p (r then s)
  stands_first stands = (stands.0, refusal_stands r s (λ zero. stands.0 (sym (ap (λ (t : Refusal). t.number) stands.1) ∙ zero)) ∙ stands.1)

  pub stands_later : r ≡ none → Stands n p s → Stands n p (r then s)
  stands_later clear stands = (stands.0, none_gives_way r s (ap (λ (t : Refusal). t.number) clear) ∙ stands.1)

-- ---- what follows

module _ {Row : ℕ → ℕ → Type 0} {r : Refusal} (agrees : Agrees Row r) where
  -- nothing is refused where no row holds, and no row holds where nothing is refused
  pub rowless_none : NoRow Row → r ≡ none
  rowless_none rowless = by_case agrees.decided
    where
      by_case : Decided Row r → r ≡ none
      by_case (nothing e) = e
      by_case (something some row) = absurd (rowless _ _ row)

  pub none_rowless : r.number ≡ 0 → NoRow Row
  none_rowless zero n p row =
      let stands = agrees.stands row in
      stands.0 (sym (ap (λ (s : Refusal). s.number) stands.1) ∙ zero)

  -- an answer that is grounded in the table and has no number: nothing is refused
  pub answered_none : {number place : ℕ} → Grounded Row number place → number ≡ 0 → r ≡ none
  answered_none grounds zero = rowless_none (grounds.answered zero).1

  -- the number and the place of an answer that has them from the refusal
  pub grounded : {number place : ℕ} → number ≡ r.number → place ≡ r.place → Grounded Row number place
  grounded same there = rw (same, there) (record {
    refused = λ numbered. by_case numbered agrees.decided;
    row = λ n p row. let stands = agrees.stands row in (stands.0, ap (λ (s : Refusal). s.number) stands.1, ap (λ (s : Refusal). s.place) stands.1);
    answered = λ zero. (by_none zero agrees.decided, none_rowless zero);
    no_row = λ rowless. let clear = rowless_none rowless in (ap (λ (s : Refusal). s.number) clear, ap (λ (s : Refusal). s.place) clear);
  })
    where
      by_case : (r.number ≡ 0 → ⊥) → Decided Row r → Row r.number r.place
      by_case numbered (nothing e) = absurd (numbered (ap (λ (s : Refusal). s.number) e))
      by_case numbered (something some row) = row

      by_none : r.number ≡ 0 → Decided Row r → r.place ≡ 0
      by_none zero (nothing e) = ap (λ (s : Refusal). s.place) e
      by_none zero (something some row) = absurd (some zero)

  -- an answer that is the refusal
  pub refusal_grounded : {z : Refusal} → z ≡ r → Grounded Row z.number z.place
  refusal_grounded is = grounded (ap (λ (s : Refusal). s.number) is) (ap (λ (s : Refusal). s.place) is)

  -- an answer with noughts where nothing is refused, else with the refusal's number and place
  module _ {A : Type 0} (number place : A → ℕ) (given refusal : A) (noughts : (number given ≡ 0) × (place given ≡ 0))
      (told : (number refusal ≡ r.number) × (place refusal ≡ r.place)) where
    abbrev answer : Bool → A
    answer t = cond t given refusal

    pub grounded_answer : Grounded Row (number (answer (eqb r.number 0))) (place (answer (eqb r.number 0)))
    grounded_answer = by_case agrees.decided
      where
        by_case : Decided Row r → Grounded Row (number (answer (eqb r.number 0))) (place (answer (eqb r.number 0)))
        by_case (nothing e) =
            let zero : eqb r.number 0 ≡ true = rw e in
            rw zero (grounded (noughts.0 ∙ sym (ap (λ (s : Refusal). s.number) e)) (noughts.1 ∙ sym (ap (λ (s : Refusal). s.place) e)))
        by_case (something some row) = rw (ne_eqb r.number 0 some) (grounded told.0 told.1)
