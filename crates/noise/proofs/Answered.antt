-- What holds of every bar that is answered: h is below r, so that the lower end is drawn from 1 or more.
use mathlib.Core.Path.{◌≡◌, refl}
use mathlib.Core.Bool.{Bool, true, false, cond}
use Prim.Native.Nat.{ℕ, ◌<◌}
use borrow.Author.Tests.{eqb-true}
use lib.Dec.{eqb}
use Rattle.laws.specs.Single.{Always}
use Rattle.noise.specs.Bars.{bar_half, bars_refusal, bar_of, no_bar, bars_answer}
use Rattle.noise.specs.declared.Noise.{Noise}
use Rattle.noise.proofs.BarLaws.{Barred, unrefused_barred, half_below, given, given_up}
use Rattle.noise.proofs.bars.bars.Reads as bars
use Rattle.noise.proofs.bars.bars.Kinds as bars-kinds

answered_barred : (r : ℕ) (t : Noise) (m : ℕ) → (bars_answer r t m).number ≡ 0 → Barred r m
unfolding bars_answer
answered_barred r t m = by_refusal (eqb (bars_refusal r m).number 0) refl
  where
    by_refusal : (nothing : Bool) → eqb (bars_refusal r m).number 0 ≡ nothing →
        (cond nothing (given (bar_of r (bar_half r t m))) (given_up (bars_refusal r m) no_bar)).number ≡ 0 → Barred r m
    by_refusal true none-refused answered = unrefused_barred r m (eqb-true _ 0 none-refused)
    by_refusal false some-refused answered = unrefused_barred r m answered

pub answered_half_below : Always 0 bars-kinds.ps bars-kinds.r bars.Post
    (λ κs args z w. let r = args.0 in let type = args.1.0 in let M = args.1.1.0 in z.number ≡ 0 → bar_half r type M < r)
answered_half_below κs args z w is answered = half_below _ (answered_barred _ _ _ (rw is at answered))
