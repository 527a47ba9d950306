-- `sums::totals::Record::write_gains` meets its contract, what its invariant leaves to show.
use mathlib.Core.Path.{sym, ◌∙◌}
use Prim.Native.Nat.{◌+◌}
use native.Mathlib.Omega.{arith}
use lib.IntN.{pos}
use Rattle.laws.proofs.ListLaws.{written_one_more, written_over}
use Rattle.laws.proofs.Machine.{read_back}
use Rattle.sums.proofs.TotalLaws.{gains_from, gains_length, gains_entry, gain_fits_word}
use Rattle.sums.proofs.totals.Record.write_gains.Goals as goal

pub loop-k-preserved : goal.loop-k-preserved
loop-k-preserved c =
    let out = gains_from c.args.self.now.m c.args.self.now.samples.now c.args.j in
    written_one_more out c.args.gains.now c.loop-k.k (pos 0) (omega (arith, gains_length c.args.self.now.m c.args.self.now.samples.now c.args.j)) (omega arith) c.loop-k.invariant
    (read_back c.gain.ensures (gain_fits_word c.args.self.now.m c.args.self.now.samples.now (c.args.j + c.loop-k.k) c.args.self.now.unrefused) ∙ sym (gains_entry c.args.self.now.m c.args.self.now.samples.now c.args.j c.loop-k.k (omega arith)))

pub returns : goal.returns
returns c =
    c.loop-k.invariant ∙ written_over (gains_from c.args.self.now.m c.args.self.now.samples.now c.args.j) _ c.loop-k.k (omega arith) (gains_length c.args.self.now.m c.args.self.now.samples.now c.args.j ∙ sym c.requires.1)
