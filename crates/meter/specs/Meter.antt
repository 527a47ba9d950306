-- The running meter: what it holds, when it holds together, and what a sample and a gap do to it.
use Rattle.std.specs.Prelude.{Bool, true, cond, ◌&&◌, List, ℕ, ◌+◌, ◌-◌, ◌*◌, ◌%◌, ◌^◌, leb, ltb, ℤ, pos, nat_abs, ◌+ℤ◌, ◌-ℤ◌, ◌*ℤ◌, length, set}
use Rattle.laws.specs.Lists.{at}
use Rattle.laws.specs.Sums.{square}
use Rattle.wide.specs.Wide.{value, halves}
use Rattle.record.specs.Refusals.{in_range}
use Rattle.meter.specs.declared.Meter.{Meter}

-- the factor runs from 1 to 10,922
unfoldable pub factor_fits : ℕ → Bool
factor_fits m = leb 1 m && leb m 10922

-- the count s in the present stretch and the term counts K and C are not above n
unfoldable pub counts_fit : Meter → Bool
counts_fit x = leb x.stretch x.n && (leb x.k x.n && leb x.c x.n)

-- the meter holds together: m in its range, n not above 32,768, s, K and C not above n, the window sum within m times 2^42 either way, both high
-- halves below 2^62
unfoldable pub holds_together : Meter → Bool
holds_together x =
    factor_fits x.m && (leb x.n 32768 && (counts_fit x && (leb (nat_abs x.window) (x.m * 2 ^ 42)
    && (ltb x.a.hi (2 ^ 62) && ltb x.b.hi (2 ^ 62)))))

-- sample number k of a stretch lies in ring slot k mod 3m
unfoldable pub slot : Meter → List ℤ → ℕ → ℤ
slot x ring k = at ring (k % (3 * x.m))

-- for a sample call also the ring: not shorter than 3m, and the old slots to be read in range, numbers s-m and s-2m from s = 2m on, and s-3m from
-- s = 3m on
unfoldable pub ring_holds : Meter → List ℤ → Bool
ring_holds x ring =
    leb (3 * x.m) (length ring)
    && (cond (leb (2 * x.m) x.stretch) (in_range (slot x ring (x.stretch - x.m)) && in_range (slot x ring (x.stretch - 2 * x.m))) true
    && cond (leb (3 * x.m) x.stretch) (in_range (slot x ring (x.stretch - 3 * x.m))) true)

-- the second difference that sample v completes, of samples s, s-m and s-2m of the stretch
unfoldable pub new_difference : Meter → List ℤ → ℤ → ℤ
new_difference x ring v = v -ℤ pos 2 *ℤ slot x ring (x.stretch - x.m) +ℤ slot x ring (x.stretch - 2 * x.m)

-- the second difference that leaves the window, of samples s-m, s-2m and s-3m
unfoldable pub old_difference : Meter → List ℤ → ℤ
old_difference x ring =
    slot x ring (x.stretch - x.m) -ℤ pos 2 *ℤ slot x ring (x.stretch - 2 * x.m) +ℤ slot x ring (x.stretch - 3 * x.m)

-- the sum of the latest second differences of the stretch, all of them up to m: d joins it once there is one, e leaves it once it is full
unfoldable pub window_with : Meter → ℤ → ℤ → ℤ
window_with x d e =
    cond (leb (3 * x.m) x.stretch) (x.window +ℤ d -ℤ e)
    (cond (leb (2 * x.m) x.stretch) (x.window +ℤ d)
    x.window)

-- the meter with one sample more: A takes in the new difference d once there is one, B the window w once it is full, and K and C count them
unfoldable pub with_terms : Meter → ℤ → ℤ → Meter
with_terms x d w = record {
  m = x.m;
  n = x.n + 1;
  stretch = x.stretch + 1;
  k = cond (leb (2 * x.m) x.stretch) (x.k + 1) x.k;
  c = cond (leb (3 * x.m) (x.stretch + 1)) (x.c + 1) x.c;
  a = cond (leb (2 * x.m) x.stretch) (halves (value x.a + square d)) x.a;
  b = cond (leb (3 * x.m) (x.stretch + 1)) (halves (value x.b + square w)) x.b;
  window = w;
}

-- the meter with sample v, by the old slots of its ring
unfoldable pub with_sample : Meter → List ℤ → ℤ → Meter
with_sample x ring v =
    let d : ℤ = new_difference x ring v in
    with_terms x d (window_with x d (old_difference x ring))

-- the ring with sample v: its own slot alone is written
unfoldable pub ring_with : Meter → List ℤ → ℤ → List ℤ
ring_with x ring v = set ring (x.stretch % (3 * x.m)) v

-- the meter after a gap: a new stretch, of which there is no sample and no difference yet; all else stays
unfoldable pub with_gap : Meter → Meter
with_gap x = record { m = x.m; n = x.n; stretch = 0; k = x.k; c = x.c; a = x.a; b = x.b; window = pos 0 }

-- a meter that was started at factor m
unfoldable pub started : ℕ → Meter
started m = record { m = m; n = 0; stretch = 0; k = 0; c = 0; a = halves 0; b = halves 0; window = pos 0 }
