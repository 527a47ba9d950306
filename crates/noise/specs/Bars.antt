-- Error bars.
use Rattle.std.specs.Prelude.{cond, ℕ, ◌+◌, ◌-◌, ◌*◌, ◌/◌, ◌^◌, leb, ltb, eqb}
use Rattle.laws.specs.Greatest.{greatest}
use Rattle.record.specs.Refusals.{refused_if, ◌then◌}
use Rattle.record.specs.declared.Refusal.{Refusal}
use Rattle.plot.specs.Drawn.{plus_zero, drawn_number}
use Rattle.noise.specs.Noise.{kappa_of}
use Rattle.noise.specs.declared.Noise.{Noise}
use Rattle.noise.specs.declared.bars.Bar.{Bar}
use Rattle.noise.specs.declared.bars.BarsAnswer.{BarsAnswer}

-- w is kappa times r divided by 100, floored
unfoldable pub bar_width : ℕ → Noise → ℕ
bar_width r t = kappa_of t * r / 100

-- h is the greatest whole number with h^2 M not above w^2
unfoldable pub bar_half : ℕ → Noise → ℕ → ℕ
bar_half r t M = greatest 64 (λ h. leb (h * h * M) (bar_width r t * bar_width r t))

-- 8 (r = 0), 3 (r above 2^62), 1 (M below 10), 2 (M above 32,767)
unfoldable pub bars_refusal : ℕ → ℕ → Refusal
bars_refusal r M = refused_if (eqb r 0) 8 0 then refused_if (ltb (2 ^ 62) r) 3 0 then refused_if (ltb M 10) 1 0 then refused_if (ltb 32767 M) 2 0

-- three doubles, drawn from r-h, r and r+h
unfoldable pub bar_of : ℕ → ℕ → Bar
bar_of r h = record { low = drawn_number (r - h); mid = drawn_number r; high = drawn_number (r + h) }

-- noughts
unfoldable pub no_bar : Bar
no_bar = record { low = plus_zero; mid = plus_zero; high = plus_zero }

-- a bar row
unfoldable pub bars_answer : ℕ → Noise → ℕ → BarsAnswer
bars_answer r t M =
    cond (eqb (bars_refusal r M).number 0)
    (record { number = 0; place = 0; bar = bar_of r (bar_half r t M) })
    (record { number = (bars_refusal r M).number; place = (bars_refusal r M).place; bar = no_bar })
