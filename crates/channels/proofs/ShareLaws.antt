-- The parts of a ring: how long a channel's part is and where it lies, what stands in it once it is put back, and that every other entry is as it was. And
-- the meters of a bank, of which one is replaced.
use mathlib.Core.Path.{◌≡◌, ◌∙◌}
use mathlib.Core.List.{List}
use mathlib.Core.Logic.{◌⊎◌, inl, inr}
use Prim.Native.Nat.{ℕ, ◌+◌, ◌*◌, ◌/◌, ◌≤◌, ◌<◌}
use native.Mathlib.Decide.{dec_lt}
use native.Mathlib.Omega.{arith}
use lib.IntN.{ℤ}
use lib.ListN.{length, take, drop, get_or, length-set, length-drop}
use lib.Seq.{length-take-le, get_or-take, get_or-drop, get_or-set_same, get_or-set_other}
use Rattle.laws.proofs.SliceLaws.{replaced_length, replaced_part, replaced_before, replaced_behind, replaced_entry, replaced_by_itself, parts_apart}
use Rattle.meter.specs.Meter.{started}
use Rattle.meter.specs.declared.Meter.{Meter}
use Rattle.channels.specs.Shares.{share, channel_part, with_part, meter_of, with_meter}
use Rattle.channels.specs.declared.Bank.{Bank}
use Rattle.channels.proofs.ChannelLaws.{part_inside}

-- ---- the parts of a ring

module _ (c : ℕ) (ring : List ℤ) (inside : c ≤ 15) where
  abbrev width : ℕ
  width = length ring / 16

  abbrev from : ℕ
  from = c * width

  part_ends : from + width ≤ length ring
  part_ends = part_inside c (length ring) inside

  pub part_length : length (channel_part c ring) ≡ length ring / 16
  unfolding channel_part share
  part_length = length-take-le width (drop from ring) (omega (arith, length-drop from ring, part_ends))

  -- entry i of the part is that of the ring c times the share further on
  pub part_entry : (i : ℕ) (z : ℤ) → i < length ring / 16 → get_or (channel_part c ring) i z ≡ get_or ring (c * (length ring / 16) + i) z
  unfolding channel_part share
  part_entry i z below = get_or-take width (drop from ring) i z below ∙ get_or-drop from ring i z

  -- a part that is put back, as long as it was
  module _ (left : List ℤ) (same : length left ≡ length ring / 16) where
    pub put_length : length (with_part c ring left) ≡ length ring
    unfolding with_part share
    put_length = replaced_length ring left from width part_ends same

    place_taken : take width (drop from (with_part c ring left)) ≡ left
    unfolding with_part share
    place_taken = replaced_part ring left from width part_ends same

    pub put_own : channel_part c (with_part c ring left) ≡ left
    unfolding channel_part share
    put_own = rw put_length place_taken

    place_apart : (k : ℕ) → (k < c) ⊎ (c < k) → take width (drop (k * width) (with_part c ring left)) ≡ take width (drop (k * width) ring)
    unfolding with_part share
    place_apart k (inl before) = replaced_before ring left from width part_ends same (k * width) width (parts_apart k c width before)
    place_apart k (inr behind) = replaced_behind ring left from width part_ends same (k * width) width (parts_apart c k width behind)

    pub put_other : (k : ℕ) → (k ≡ c → ⊥) → channel_part k (with_part c ring left) ≡ channel_part k ring
    unfolding channel_part share
    put_other k other = rw put_length (place_apart k (by_order (dec_lt k c)))
      where
        by_order : Dec (k < c) → (k < c) ⊎ (c < k)
        by_order (yes before) = inl before
        by_order (no not_before) = inr (omega arith)

    -- every entry outside the part is as it was, those that are nobody's too
    pub put_entry : (i : ℕ) (z : ℤ) → (i < c * (length ring / 16)) ⊎ (c * (length ring / 16) + length ring / 16 ≤ i) → get_or (with_part c ring left) i z ≡ get_or ring i z
    unfolding with_part share
    put_entry i z apart = replaced_entry ring left from width part_ends same i z apart

pub put_as_it_was : (c : ℕ) (ring : List ℤ) → with_part c ring (channel_part c ring) ≡ ring
unfolding with_part channel_part share
put_as_it_was c ring = replaced_by_itself ring (c * (length ring / 16)) (length ring / 16)

-- ---- the meters of a bank

module _ (b : Bank) (c : ℕ) (x : Meter) where
  pub replaced_meters : length (with_meter b c x).meters ≡ length b.meters
  unfolding with_meter
  replaced_meters = length-set b.meters c x

  pub replaced_own : c < length b.meters → meter_of (with_meter b c x) c ≡ x
  unfolding meter_of with_meter
  replaced_own inside = get_or-set_same b.meters c x (started 0) inside

  pub replaced_other : (k : ℕ) → (k ≡ c → ⊥) → meter_of (with_meter b c x) k ≡ meter_of b k
  unfolding meter_of with_meter
  replaced_other k other = get_or-set_other b.meters c k x (started 0) other
