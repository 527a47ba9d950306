-- A text that grows in a buffer with its length beside it: what one output behind another comes to.
use Rattle.std.proofs.Common.{◌≡◌, ℕ, ◌+◌, List, ◌++◌, length, take, ap, ◌∙◌, arith, append_assoc, length-append}

-- an output stands behind the text that ended at a place: where it ends, and what stands up to there. What stands beyond means nothing
pub record Appended {A : Type 0} (out before : List A) (at : ℕ) (after : List A) (end : ℕ) : Type 0 where
  pub ends : end ≡ at + length out
  pub holds : take end after ≡ take at before ++ out

-- one output behind another
pub both_appended : {A : Type 0} {a b before between after : List A} {at middle end : ℕ} →
    Appended a before at between middle → Appended b between middle after end → Appended (a ++ b) before at after end
both_appended {a = a} {b = b} {before = before} {at = at} x y = record {
  ends = omega (arith, x.ends, y.ends, length-append a b);
  holds = y.holds ∙ ap (λ t. t ++ b) x.holds ∙ append_assoc (take at before) a b;
}

-- from the front of the buffer on, the output is all that stands there
pub all_appended : {A : Type 0} {out before after : List A} {end : ℕ} → Appended out before 0 after end → (end ≡ length out) × (take end after ≡ out)
all_appended x = (omega (arith, x.ends), x.holds)
