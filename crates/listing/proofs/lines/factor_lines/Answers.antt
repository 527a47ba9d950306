-- `listing::lines::factor_lines` meets its contract, what its invariant leaves to show.
use mathlib.Core.Path.{◌≡◌, ap₂}
use mathlib.Core.List.{[]}
use Prim.Native.Nat.{ℕ, ◌+◌, ◌-◌, ◌*◌, ◌^◌}
use native.Mathlib.Nat.{pow-suc}
use native.Mathlib.Numerals.{add-one}
use native.Mathlib.Omega.{arith}
use lib.ListN.{length}
use Rattle.listing.specs.Sheet.{factors_from, factors, lines_of, allan_counts, modified_counts}
use Rattle.listing.proofs.FactorLaws.{factor_word, none_done, one_more_done, none_due, none_left, lines_done, ks_done, cs_done}
use Rattle.listing.proofs.lines.factor_lines.Goals as goal
use Rattle.listing.proofs.lines.factor_lines.Goals.{At-loop-i}

-- no factor is left
all_done : (h : At-loop-i) → let a = h.args in let xs = a.samples.now in let ms = factors (length xs) in
    factors_from (11 - h.loop-i.i) (2 ^ h.loop-i.i) (length xs) ≡ [] →
    (h.loop-i.text ≡ lines_of xs ms) × (h.loop-i.totals ≡ record { k = a.totals.k + allan_counts xs ms; c = a.totals.c + modified_counts xs ms })
all_done h ended =
    let d = h.loop-i.invariant in
    (lines_done _ _ _ d ended, ap₂ (λ (k c : ℕ). record { k = k; c = c }) (ks_done _ _ _ d ended) (cs_done _ _ _ d ended))

pub loop-i-init : goal.loop-i-init
loop-i-init c = rw c.requires.0 (none_done _ _ _)

pub overflow_mul-m : goal.overflow_mul-m
overflow_mul-m c = omega (arith, factor_word c.loop-i.i (omega arith), c.loop-i.invariant.factor)

pub returns-then-samples-m : goal.returns-then-samples-m
returns-then-samples-m c =
    let ended = none_due _ _ _ c.loop-i.invariant (omega arith) (omega (arith, factor_word c.loop-i.i (omega arith))) in
    record { text_after = (all_done (goal.at.returns-then-samples-m c).At-loop-i ended).0; totals_value = (all_done (goal.at.returns-then-samples-m c).At-loop-i ended).1 }

pub factor_line-totals-requires : goal.factor_line-totals-requires
factor_line-totals-requires c = let d = c.loop-i.invariant in omega (arith, d.room, d.k_within, d.c_within, d.within, c.requires)

pub loop-i-preserved : goal.loop-i-preserved
loop-i-preserved c =
    let l = c.factor_line-totals in
    let word = factor_word c.loop-i.i (omega arith) in
    let twice : 2 ^ (c.loop-i.i + 1) ≡ 2 * 2 ^ c.loop-i.i = rw (add-one, pow-suc) (omega arith) in
    rw (l.ensures.totals_value, word, twice)
    (one_more_done _ _ _ c.loop-i.invariant (omega arith) (omega arith) (omega (arith, c.requires)) (rw word at l.ensures.text_after) l.ensures.room)

pub returns : goal.returns
returns c =
    let ended = none_left _ _ _ c.loop-i.invariant (omega arith) in
    record { text_after = (all_done (goal.at.returns c).At-loop-i ended).0; totals_value = (all_done (goal.at.returns c).At-loop-i ended).1 }
