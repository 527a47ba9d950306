-- `noise::bars::row` meets its contract.
use mathlib.Core.Path.{◌≡◌}
use native.Mathlib.Omega.{arith}
use Rattle.std.proofs.lemmas.Result.{err_from_is_err_and}
use Rattle.noise.specs.Bars.{bar_half}
use Rattle.noise.proofs.BarLaws.{Barred, nothing_refused, kappa_within, half_is, half_below, bars_error, bars_given}
use Rattle.noise.proofs.bars.row.Goals as goal
use Rattle.noise.proofs.bars.row.Goals.{After-half_of-half, In_ok-check_bars}

barred : (c : In_ok-check_bars) → let x = c.args in Barred x.r x.intervals
barred c = nothing_refused c.in_ok-check_bars.ensures

half : (c : After-half_of-half) → let x = c.args in c.half_of-half.result ≡ bar_half x.r x.noise x.intervals
half c = half_is _ _ _ c.kappa.ensures c.width_of.ensures c.half_of-half.ensures

pub returns-in_err-check_bars : goal.returns-in_err-check_bars
returns-in_err-check_bars c =
    let p = err_from_is_err_and c.from_residual.result c.from_residual.ensures.1 in
    rw (p.1, p.2) (bars_error _ _ _ _ c.in_err-check_bars.ensures)

pub width_of-requires : goal.width_of-requires
width_of-requires c = ((barred (goal.at.width_of-requires c).In_ok-check_bars).most, omega (arith, c.kappa.ensures, kappa_within c.args.noise))

pub half_of-half-requires : goal.half_of-half-requires
half_of-half-requires c = omega (arith, (barred (goal.at.half_of-half-requires c).In_ok-check_bars).enough)

pub bar_of-requires : goal.bar_of-requires
bar_of-requires c =
    let known = barred (goal.at.bar_of-requires c).In_ok-check_bars in
    (known.most, rw (half (goal.at.bar_of-requires c).After-half_of-half) (half_below _ known))

pub returns : goal.returns
returns c = bars_given _ _ _ c.in_ok-check_bars.ensures (half (goal.at.returns c).After-half_of-half) c.bar_of.ensures
