-- Condition 3: the running meter equals the formula. A trace (specs/Calls.antt) is any sequence of starts, samples, gaps, reports and refused
-- calls, each given the meter as the call before gave it back and lent its own ring, and each step is what the function's own contract allows.
-- Trace x ring m h past: x is the meter that the latest call gave back, ring its own ring as it was left, m the factor of the latest accepted start (nought
-- before the first), h the samples accepted since in the present stretch, and past the stretches that gaps have ended since, the latest first; so the stretches
-- are h ∷ past. Starts, Samples, Gaps and Reports are one call by its contract. The exported calls have the same contracts (Condition1.antt,
-- plg-meter-start-is, plg-meter-sample-is, plg-meter-gap-is, plg-meter-report-is). For sixteen channels that share one ring it is read channel by channel: a
-- ChannelTrace and a BankTrace (specs/Channels.antt) are any calls on all of them, and each channel is a meter with its part of the ring for its own;
-- the exported calls have the same contracts (plg-channel-start-is, plg-channel-sample-is, plg-channel-gap-is, plg-channel-report-is).
use mathlib.Core.Path.{◌≡◌, refl, sym, ◌∙◌}
use mathlib.Core.Bool.{true}
use mathlib.Core.List.{List, [], ◌∷◌}
use Prim.Native.Nat.{ℕ, ◌+◌, ◌-◌, ◌*◌, ◌/◌, ◌%◌, ◌^◌, ◌≤◌, ◌<◌}
use native.Mathlib.Omega.{arith}
use borrow.Author.Tests.{le-leb, lt-leb}
use lib.IntN.{ℤ, pos, nat_abs, ◌+ℤ◌, ◌-ℤ◌, ◌*ℤ◌}
use lib.ListN.{length}
use Rattle.laws.specs.Lists.{at}
use Rattle.laws.specs.Sums.{sum_ℤ, square, total_over}
use Rattle.laws.proofs.LatestLaws.{latest_of}
use Rattle.laws.proofs.SumLaws.{sum_zero}
use Rattle.laws.proofs.Tests.{never_false}
use Rattle.wide.specs.Wide.{value}
use Rattle.wide.proofs.WideLaws.{value_of_halves}
use Rattle.record.proofs.RangeLaws.{bounded_sample}
use Rattle.sums.specs.Published.{difference, allan_count, allan_sum, modified_count, modified_sum}
use Rattle.sums.proofs.PublishedLaws.{allan_sum_is, modified_sum_is}
use Rattle.sums.proofs.Shifted.{Shifted, shifted_allan_sum, shifted_modified_sum}
use Rattle.sums.specs.Answers.{part_of}
use Rattle.meter.specs.Meter.{holds_together, slot, new_difference, old_difference, window_with, with_terms, with_sample, with_gap, started}
use Rattle.meter.specs.Answers.{report_answer}
use Rattle.meter.specs.declared.Meter.{Meter}
use Rattle.meter.specs.declared.MeterAnswer.{MeterAnswer}
use Rattle.meter.specs.declared.Report.{Report}
use Rattle.meter.proofs.Stream.{latest}
use Rattle.meter.proofs.Running.{published_report}
use Rattle.acceptance.specs.Calls.{Starts, Samples, Gaps, Reports, Trace, Call, Run, Alike, no_stretch, one_more}
use Rattle.acceptance.proofs.AnyCalls.{started_factor, reports_published, takes_every_start, takes_every_sample, takes_every_gap, accepted_fresh, accepted_worked, accepted_apart, two_gaps_one, early_gap_changes_nothing, report_answers, trace_runs, alike_totals, alike_streams_agree, refused_start_changes_nothing, refused_sample_changes_nothing, refused_gap_changes_nothing}
use Rattle.acceptance.proofs.LatestOnly.{only_read_slots_matter, same_latest_same_answers, same_samples_same_answers}
use Rattle.channels.specs.Shares.{channel_part, meter_of}
use Rattle.channels.specs.declared.Bank.{Bank}
use Rattle.channels.specs.declared.BankAnswer.{BankAnswer}
use Rattle.channels.proofs.ShareLaws.{part_length, part_entry}
use Rattle.acceptance.specs.Channels.{ChannelStarts, ChannelSamples, ChannelGaps, ChannelReports, ChannelTrace, BankStarts, BankSamples, BankGaps, BankReports, BankTrace, Accepted}
use Rattle.acceptance.proofs.ChannelCalls.{starts_on_part, samples_on_part, gaps_on_part, reports_on_part, seen_from_channel, bank_seen, report_held, sample_held, other_part_kept, length_kept, other_meter_kept, bank_starts_on, bank_samples_on, bank_gaps_on, same_part_same_start, same_part_same_sample}
use Rattle.acceptance.specs.Noughts.{Refused}
use Rattle.acceptance.specs.Promises.{SumOf, PartsOf, StretchesOf}
use Rattle.acceptance.proofs.PromiseLaws.{report_of, one_stretch}

-- ---- the report

-- After any sequence of calls, once started, the report is the totals of A and K and of B and C, worked directly over each stretch alone of the samples
-- accepted since the latest accepted start; each apart, or 1 for the one that has no term.
pub report_totals_stretches : {x : Meter} {ring h : List ℤ} {past : List (List ℤ)} {m : ℕ} → Trace x ring m h past → 1 ≤ m → {z : Report} → Reports x z →
    (z.number ≡ 0) × StretchesOf m (h ∷ past) z.allan z.modified
unfolding published_report
report_totals_stretches trace started call = rw (reports_published trace started call) (refl, report_of _ _)

-- A stretch that is too short gives nothing: one of 2m samples or fewer to A and K, one of fewer than 3m to B and C.
pub short_stretch_gives_nothing : (m : ℕ) (h : List ℤ) →
    (length h < 2 * m + 1 → (allan_sum m h ≡ 0) × (allan_count m h ≡ 0)) × (length h < 3 * m → (modified_sum m h ≡ 0) × (modified_count m h ≡ 0))
unfolding allan_count modified_count
short_stretch_gives_nothing m h = (
  λ short. (sym (allan_sum_is m h 0 (omega arith)) ∙ sum_zero _, omega arith),
  λ short. (sym (modified_sum_is m h 0 (omega arith)) ∙ sum_zero _, omega arith),
)

-- Where there was no gap since the latest accepted start, the report is A with n-2m and B with n-3m+1, worked directly over every sample accepted since;
-- each apart, or 1 for the one that is not yet due.
pub report_is_published : {x : Meter} {ring accepted : List ℤ} {m : ℕ} → Trace x ring m accepted [] → 1 ≤ m → {z : Report} → Reports x z →
    (z.number ≡ 0) × PartsOf m accepted z.allan z.modified
report_is_published trace started call = let is = report_totals_stretches trace started call in (is.0, one_stretch is.1)

-- An accepted start has a factor of at least 1, so that "once started" is 1 ≤ m.
pub once_started : {x : Meter} {m : ℕ} {ring : List ℤ} {z : MeterAnswer} → Starts x m ring z → z.number ≡ 0 → 1 ≤ m
once_started call accepted = started_factor call accepted

-- The meter itself holds the factor, the counts, both sums, and the sum of the latest second differences of the present stretch, all of them while there
-- are fewer than m: of the K = s-2m that the stretch has so far these are K - (K - m).
pub meter_holds : {x : Meter} {ring h : List ℤ} {past : List (List ℤ)} {m : ℕ} → Trace x ring m h past → 1 ≤ m → let K : ℕ = length h - 2 * m in
    (x.m ≡ m) × (x.n ≡ total_over length (h ∷ past)) × (x.stretch ≡ length h)
    × (x.k ≡ total_over (allan_count m) (h ∷ past)) × (x.c ≡ total_over (modified_count m) (h ∷ past))
    × (value x.a ≡ total_over (allan_sum m) (h ∷ past)) × (value x.b ≡ total_over (modified_sum m) (h ∷ past))
    × (x.window ≡ sum_ℤ (K - (K - m)) (λ i. difference m h (K - m + i)))
unfolding latest latest_of allan_count
meter_holds trace started = rw (trace_runs trace started).0 (refl, refl, refl, refl, refl, value_of_halves _, value_of_halves _, refl)

-- Any meter that is started, takes a sample or meets a gap, made by hand or not, gets this: a start gives noughts at factor m; a sample the difference d of
-- samples s, s-m and s-2m from s = 2m on, while e, of s-m, s-2m and s-3m, leaves the window from s = 3m on, A takes in d, and B the window once it is full,
-- and K and C count them; a gap nought for s and the window, and all else stays.
pub start_gives_noughts : {x : Meter} {m : ℕ} {ring : List ℤ} {z : MeterAnswer} → Starts x m ring z → z.number ≡ 0 → let y = z.meter in
    (y.m ≡ m) × (y.n ≡ 0) × (y.stretch ≡ 0) × (y.k ≡ 0) × (y.c ≡ 0) × (value y.a ≡ 0) × (value y.b ≡ 0) × (y.window ≡ pos 0)
unfolding started
start_gives_noughts call accepted = rw (accepted_fresh call accepted) (refl, refl, refl, refl, refl, refl, refl, refl)

pub sample_works_on : {x : Meter} {ring left : List ℤ} {v : ℤ} {z : MeterAnswer} → Samples x ring v z left → z.number ≡ 0 → let y = z.meter in
    let s : ℕ = x.stretch in
    let old : (ℕ → ℤ) = λ k. at ring (k % (3 * x.m)) in
    let d : ℤ = v -ℤ pos 2 *ℤ old (s - x.m) +ℤ old (s - 2 * x.m) in
    let e : ℤ = old (s - x.m) -ℤ pos 2 *ℤ old (s - 2 * x.m) +ℤ old (s - 3 * x.m) in
    (y.m ≡ x.m) × (y.n ≡ x.n + 1) × (y.stretch ≡ s + 1)
    × (s < 2 * x.m → (y.window ≡ x.window) × (y.a ≡ x.a) × (y.k ≡ x.k))
    × (2 * x.m ≤ s → (value y.a ≡ value x.a + square d) × (y.k ≡ x.k + 1))
    × (2 * x.m ≤ s → s < 3 * x.m → y.window ≡ x.window +ℤ d)
    × (3 * x.m ≤ s → y.window ≡ x.window +ℤ d -ℤ e)
    × (s + 1 < 3 * x.m → (y.b ≡ x.b) × (y.c ≡ x.c))
    × (3 * x.m ≤ s + 1 → (value y.b ≡ value x.b + square y.window) × (y.c ≡ x.c + 1))
unfolding with_sample with_terms window_with new_difference old_difference slot
sample_works_on {x} call accepted =
    let s : ℕ = x.stretch in
    rw (accepted_worked call accepted) (
      refl,
      refl,
      refl,
      λ few. rw (lt-leb (2 * x.m) s few, lt-leb (3 * x.m) s (omega arith)) (refl, refl, refl),
      λ many. rw (le-leb (2 * x.m) s many) (value_of_halves _, refl),
      λ many few. rw (le-leb (2 * x.m) s many, lt-leb (3 * x.m) s few) refl,
      λ many. rw (le-leb (3 * x.m) s many) refl,
      λ few. rw (lt-leb (3 * x.m) (s + 1) few) (refl, refl),
      λ many. rw (le-leb (3 * x.m) (s + 1) many) (value_of_halves _, refl),
    )

pub gap_works_on : {x : Meter} {z : MeterAnswer} → Gaps x z → z.number ≡ 0 → let y = z.meter in
    (y.m ≡ x.m) × (y.n ≡ x.n) × (y.stretch ≡ 0) × (y.k ≡ x.k) × (y.c ≡ x.c) × (y.a ≡ x.a) × (y.b ≡ x.b) × (y.window ≡ pos 0)
unfolding with_gap
gap_works_on call accepted = rw (accepted_apart call accepted) (refl, refl, refl, refl, refl, refl, refl, refl)

-- A report tells the sums that the meter holds, with their term counts, each apart, or 1.
pub report_tells_the_meter : {x : Meter} {z : Report} → Reports x z → z.number ≡ 0 →
    (1 ≤ x.k → (z.allan.number ≡ 0) × SumOf (value x.a) x.k z.allan.sum z.allan.count)
    × (x.k ≡ 0 → z.allan.number ≡ 1)
    × (1 ≤ x.c → (z.modified.number ≡ 0) × SumOf (value x.b) x.c z.modified.sum z.modified.count)
    × (x.c ≡ 0 → z.modified.number ≡ 1)
unfolding report_answer part_of
report_tells_the_meter {x} call answered =
    let is = report_answers call in
    let together : holds_together x ≡ true = never_false _ (λ e. omega (arith, rw (is, e) at answered)) in
    rw (is, together) (
      λ due. rw (le-leb 1 x.k due) (refl, (value_of_halves _, refl)),
      λ none. rw (lt-leb 1 x.k (omega arith)) refl,
      λ due. rw (le-leb 1 x.c due) (refl, (value_of_halves _, refl)),
      λ none. rw (lt-leb 1 x.c (omega arith)) refl,
    )

-- ---- what is taken

-- No start at a factor from 1 to 10,922 is refused if its ring has 3m entries or more.
pub every_start_is_taken : {x : Meter} {m : ℕ} {ring : List ℤ} {z : MeterAnswer} → Starts x m ring z → 1 ≤ m → m ≤ 10922 → 3 * m ≤ length ring → z.number ≡ 0
every_start_is_taken call least most long = takes_every_start call least most long

-- Once started and until 32,768 are in, over all stretches, no sample from -2^40 to 2^40 is refused.
pub every_sample_is_taken : {x : Meter} {ring h : List ℤ} {past : List (List ℤ)} {m : ℕ} → Trace x ring m h past → 1 ≤ m → total_over length (h ∷ past) < 32768 →
    {left : List ℤ} {v : ℤ} {z : MeterAnswer} → Samples x ring v z left → nat_abs v ≤ 2 ^ 40 → z.number ≡ 0
every_sample_is_taken trace started room {v = v} call inside = takes_every_sample trace started call (bounded_sample v inside) room

-- Once started no gap is refused.
pub every_gap_is_taken : {x : Meter} {ring h : List ℤ} {past : List (List ℤ)} {m : ℕ} → Trace x ring m h past → 1 ≤ m →
    {z : MeterAnswer} → Gaps x z → z.number ≡ 0
every_gap_is_taken trace started call = takes_every_gap trace started call

-- ---- gaps

-- Two gaps together are one: the second answers what the first did, of any meter.
pub two_gaps_are_one : {x : Meter} {z z' : MeterAnswer} → Gaps x z → Gaps z.meter z' → z' ≡ z
two_gaps_are_one call call' = two_gaps_one call call'

-- A gap before the first sample is taken and changes nothing.
pub gap_before_the_first : {x : Meter} {m : ℕ} {ring : List ℤ} {z z' : MeterAnswer} → Starts x m ring z → z.number ≡ 0 → Gaps z.meter z' →
    (z'.number ≡ 0) × (z'.meter ≡ z.meter)
gap_before_the_first call accepted call' = early_gap_changes_nothing call accepted call'

-- ---- shifted streams

-- Two streams at one factor with gaps at the same places, whose samples differ in each stretch by a whole offset plus a whole rate times the sample's
-- number, the stretch's own, all accepted in both, get equal reports, and the published sums of the two have equal totals.
pub shifted_stretches : {x x' : Meter} {ring ring' h h' : List ℤ} {past past' : List (List ℤ)} {m : ℕ} → Trace x ring m h past → Trace x' ring' m h' past' → 1 ≤ m →
    Alike (h ∷ past) (h' ∷ past') → {z z' : Report} → Reports x z → Reports x' z' →
    (z' ≡ z) × (z.number ≡ 0) × StretchesOf m (h ∷ past) z.allan z.modified
    × (total_over (allan_sum m) (h' ∷ past') ≡ total_over (allan_sum m) (h ∷ past))
    × (total_over (modified_sum m) (h' ∷ past') ≡ total_over (modified_sum m) (h ∷ past))
shifted_stretches {m = m} trace trace' started alike call call' =
    let same = alike_totals m alike in
    let is = report_totals_stretches trace started call in
    (alike_streams_agree trace trace' started alike call call', is.0, is.1, same.1, same.3)

-- Where there was no gap: two streams at one factor that differ by a whole offset plus a whole rate times the sample's number, all accepted in both, get
-- equal reports, and the published sums of the two are equal.
pub shifted_streams : {x x' : Meter} {ring ring' accepted accepted' : List ℤ} {m : ℕ} → Trace x ring m accepted [] → Trace x' ring' m accepted' [] → 1 ≤ m →
    (offset rate : ℤ) → length accepted' ≡ length accepted →
    ((i : ℕ) → i < length accepted → at accepted' i ≡ at accepted i +ℤ (offset +ℤ rate *ℤ pos i)) →
    {z z' : Report} → Reports x z → Reports x' z' →
    (z' ≡ z) × (z.number ≡ 0) × PartsOf m accepted z.allan z.modified × (allan_sum m accepted' ≡ allan_sum m accepted) × (modified_sum m accepted' ≡ modified_sum m accepted)
shifted_streams {m = m} trace trace' started offset rate same moved call call' =
    let shifted : Shifted offset rate _ _ = record { same_length = same; moved = moved } in
    let is = report_is_published trace started call in (
      alike_streams_agree trace trace' started (one_more offset rate same moved no_stretch) call call',
      is.0,
      is.1,
      shifted_allan_sum shifted m,
      shifted_modified_sum shifted m,
    )

-- ---- refused calls

-- A refused start gives the meter back as it came; the ring is lent to it for reading alone.
pub refused_start : {x : Meter} {m : ℕ} {ring : List ℤ} {z : MeterAnswer} → Starts x m ring z → Refused z.number → z.meter ≡ x
refused_start call refused = refused_start_changes_nothing call refused

-- A refused sample gives the meter back as it came and leaves the ring as it was.
pub refused_sample : {x : Meter} {ring left : List ℤ} {v : ℤ} {z : MeterAnswer} → Samples x ring v z left → Refused z.number →
    (z.meter ≡ x) × (left ≡ ring)
refused_sample call refused = refused_sample_changes_nothing call refused

-- A refused gap gives the meter back as it came.
pub refused_gap : {x : Meter} {z : MeterAnswer} → Gaps x z → Refused z.number → z.meter ≡ x
refused_gap call refused = refused_gap_changes_nothing call refused

-- ---- only the latest 3m samples of the present stretch matter

-- A sample call answers the same of two rings that agree on the slots of samples s-m and s-2m from s = 2m on, and of s-3m from s = 3m on.
pub only_slots_that_are_read : {x : Meter} {ring ring' left left' : List ℤ} {v : ℤ} {z z' : MeterAnswer} → let s : ℕ = x.stretch in
    3 * x.m ≤ length ring → 3 * x.m ≤ length ring' →
    (2 * x.m ≤ s → at ring ((s - x.m) % (3 * x.m)) ≡ at ring' ((s - x.m) % (3 * x.m))) →
    (2 * x.m ≤ s → at ring ((s - 2 * x.m) % (3 * x.m)) ≡ at ring' ((s - 2 * x.m) % (3 * x.m))) →
    (3 * x.m ≤ s → at ring ((s - 3 * x.m) % (3 * x.m)) ≡ at ring' ((s - 3 * x.m) % (3 * x.m))) →
    Samples x ring v z left → Samples x ring' v z' left' → z ≡ z'
unfolding slot
only_slots_that_are_read long long' once twice thrice =
    only_read_slots_matter (record { long = long; long' = long'; once = once; twice = twice; thrice = thrice })

-- All later samples and gaps are answered the same if the rings agree on the slots of the latest 3m samples of the present stretch, or of all while there
-- are fewer.
pub only_the_latest : {x : Meter} {ring ring' : List ℤ} {later : List Call} {zs zs' : List MeterAnswer} → 1 ≤ x.m →
    3 * x.m ≤ length ring → 3 * x.m ≤ length ring' →
    ((k : ℕ) → k < x.stretch → x.stretch ≤ k + 3 * x.m → at ring (k % (3 * x.m)) ≡ at ring' (k % (3 * x.m))) →
    Run x ring later zs → Run x ring' later zs' → zs ≡ zs'
unfolding slot
only_the_latest least long long' kept = same_latest_same_answers (record { factor_least = least; long = long; long' = long'; kept = kept })

-- Two meters that were started at one factor and have accepted the same samples since, with gaps at the same places, are equal, and answer all later samples
-- and gaps the same, whatever calls came before and whatever else stands in their rings.
pub same_samples : {x x' : Meter} {ring ring' h : List ℤ} {past : List (List ℤ)} {m : ℕ} → Trace x ring m h past → Trace x' ring' m h past → 1 ≤ m →
    (x ≡ x') × ((later : List Call) (zs zs' : List MeterAnswer) → Run x ring later zs → Run x' ring' later zs' → zs ≡ zs')
same_samples trace trace' started = same_samples_same_answers trace trace' started

-- The ring keeps the latest 3m samples of the present stretch, number k in slot k mod 3m.
pub ring_keeps_the_latest : {x : Meter} {ring h : List ℤ} {past : List (List ℤ)} {m : ℕ} → Trace x ring m h past → 1 ≤ m →
    (k : ℕ) → k < length h → length h ≤ k + 3 * m → at ring (k % (3 * m)) ≡ at h k
ring_keeps_the_latest trace started = (trace_runs trace started).1.kept

-- ---- sixteen channels in one ring

-- Channel c's part of a ring has a sixteenth of its entries, the whole part, and entry i of it is entry c times the share and i of the ring.
pub channel_part_lies : (c : ℕ) (ring : List ℤ) → c ≤ 15 →
    (length (channel_part c ring) ≡ length ring / 16) × ((i : ℕ) → i < length ring / 16 → at (channel_part c ring) i ≡ at ring (c * (length ring / 16) + i))
channel_part_lies c ring inside = (part_length c ring inside, λ i below. part_entry c ring inside i (pos 0) below)

-- Any calls on all channels, refused ones too, are for each channel calls of its own meter with the channel's part as its own ring: all that is said above of
-- a Trace holds of it.
pub channel_is_a_meter : {c : ℕ} {x : Meter} {ring h : List ℤ} {past : List (List ℤ)} {m : ℕ} → c ≤ 15 → ChannelTrace c x ring m h past →
    Trace x (channel_part c ring) m h past
channel_is_a_meter inside trace = seen_from_channel inside trace

pub bank_is_sixteen_meters : {b : Bank} {ring : List ℤ} {all : ℕ → Accepted} → BankTrace b ring all → (c : ℕ) → c ≤ 15 →
    Trace (meter_of b c) (channel_part c ring) (all c).factor (all c).present (all c).past
bank_is_sixteen_meters trace c inside = seen_from_channel inside ((bank_seen trace).each c inside)

-- So a channel's report, once it was started, is the totals of the published sums over the stretches of the samples that this channel accepted since its
-- latest accepted start, whatever was called on the others.
pub channel_report_totals_stretches : {c : ℕ} {x : Meter} {ring h : List ℤ} {past : List (List ℤ)} {m : ℕ} → c ≤ 15 → ChannelTrace c x ring m h past → 1 ≤ m →
    {z : Report} → ChannelReports x c z → (z.number ≡ 0) × StretchesOf m (h ∷ past) z.allan z.modified
channel_report_totals_stretches inside trace started call = report_totals_stretches (seen_from_channel inside trace) started (reports_on_part inside call)

pub bank_report_totals_stretches : {b : Bank} {ring : List ℤ} {all : ℕ → Accepted} {c : ℕ} → BankTrace b ring all → c ≤ 15 → 1 ≤ (all c).factor →
    {z : Report} → BankReports b c z → (z.number ≡ 0) × StretchesOf (all c).factor ((all c).present ∷ (all c).past) z.allan z.modified
bank_report_totals_stretches {c = c} trace inside started call =
    report_totals_stretches (bank_is_sixteen_meters trace c inside) started (reports_on_part inside (report_held call))

-- No start on a channel at a factor from 1 to 10,922 is refused if the share has 3m entries or more.
pub every_channel_start_is_taken : {x : Meter} {c m : ℕ} {ring : List ℤ} {z : MeterAnswer} → ChannelStarts x c m ring z → c ≤ 15 → 1 ≤ m → m ≤ 10922 →
    3 * m ≤ length ring / 16 → z.number ≡ 0
every_channel_start_is_taken {c = c} {ring = ring} call inside least most long =
    takes_every_start (starts_on_part inside call) least most (rw (part_length c ring inside) long)

-- Once it was started and until it has 32,768, no sample in range is refused on a channel, and no gap.
pub every_channel_sample_is_taken : {c : ℕ} {x : Meter} {ring h : List ℤ} {past : List (List ℤ)} {m : ℕ} → c ≤ 15 → ChannelTrace c x ring m h past → 1 ≤ m →
    total_over length (h ∷ past) < 32768 → {left : List ℤ} {v : ℤ} {z : MeterAnswer} → ChannelSamples x c ring v z left → nat_abs v ≤ 2 ^ 40 → z.number ≡ 0
every_channel_sample_is_taken inside trace started room call within =
    every_sample_is_taken (seen_from_channel inside trace) started room (samples_on_part inside call) within

pub every_channel_gap_is_taken : {c : ℕ} {x : Meter} {ring h : List ℤ} {past : List (List ℤ)} {m : ℕ} → c ≤ 15 → ChannelTrace c x ring m h past → 1 ≤ m →
    {z : MeterAnswer} → ChannelGaps x c z → z.number ≡ 0
every_channel_gap_is_taken inside trace started call = takes_every_gap (seen_from_channel inside trace) started (gaps_on_part inside call)

-- ---- a call on another channel

-- A sample call on channel c, accepted or refused, with whatever meter, leaves the ring as long as it was and every entry of another channel k's part, and
-- whatever is called next on channel k is answered as it would have been before. The other calls write no ring.
pub another_channel_changes_nothing : {y : Meter} {c k : ℕ} {ring left : List ℤ} {v : ℤ} {z : MeterAnswer} → ChannelSamples y c ring v z left → (k ≡ c → ⊥) →
    (length left ≡ length ring) × (channel_part k left ≡ channel_part k ring)
    × ((x : Meter) (m : ℕ) (a a' : MeterAnswer) → ChannelStarts x k m ring a → ChannelStarts x k m left a' → a ≡ a')
    × ((x : Meter) (u : ℤ) (a a' : MeterAnswer) (l l' : List ℤ) → ChannelSamples x k ring u a l → ChannelSamples x k left u a' l' → (a ≡ a') × (channel_part k l ≡ channel_part k l'))
another_channel_changes_nothing call other =
    let kept = other_part_kept call other in (
      length_kept call,
      kept,
      λ x m a a' before after. same_part_same_start (sym kept) before after,
      λ x u a a' l l' before after. same_part_same_sample (sym kept) before after,
    )

-- A bank's call on channel c changes the meter of no other channel k; nor does a sample call change its part of the ring.
pub another_channel_of_the_bank : {b : Bank} {c k : ℕ} {ring : List ℤ} {z : BankAnswer} → (k ≡ c → ⊥) →
    ((m : ℕ) → BankStarts b c m ring z → meter_of z.bank k ≡ meter_of b k)
    × ((v : ℤ) (left : List ℤ) → BankSamples b c ring v z left → (meter_of z.bank k ≡ meter_of b k) × (channel_part k left ≡ channel_part k ring))
    × (BankGaps b c z → meter_of z.bank k ≡ meter_of b k)
another_channel_of_the_bank {k = k} other = (
  λ m call. other_meter_kept _ _ _ (bank_starts_on call) k other,
  λ v left call. (other_meter_kept _ _ _ (bank_samples_on call).0 k other, other_part_kept (sample_held call) other),
  λ call. other_meter_kept _ _ _ (bank_gaps_on call) k other,
)
