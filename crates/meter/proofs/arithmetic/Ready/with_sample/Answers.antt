-- `meter::arithmetic::Ready::with_sample` meets its contract.
use Rattle.meter.proofs.ArithmeticLaws.{samples_read, read_difference_within, read_window_within, terms_are}
use Rattle.meter.proofs.arithmetic.Ready.with_sample.Goals as goal

pub difference-d-requires : goal.difference-d-requires
difference-d-requires c = samples_read c.args.x c.args.one c.args.two (c.requires.3, c.requires.0, c.requires.1)

pub difference-e-requires : goal.difference-e-requires
difference-e-requires c = samples_read c.args.one c.args.two c.args.three (c.requires.0, c.requires.1, c.requires.2)

pub new_window-window-requires : goal.new_window-window-requires
new_window-window-requires c = (
  read_difference_within c.args.x c.args.one c.args.two (c.requires.3, c.requires.0, c.requires.1) c.difference-d.ensures,
  read_difference_within c.args.one c.args.two c.args.three (c.requires.0, c.requires.1, c.requires.2) c.difference-e.ensures,
)

pub with_terms-requires : goal.with_terms-requires
with_terms-requires c = (
  read_difference_within c.args.x c.args.one c.args.two (c.requires.3, c.requires.0, c.requires.1) c.difference-d.ensures,
  read_window_within c.args.self.now.meter c.args.self.now.together c.args.x c.args.one c.args.two c.args.three (c.requires.3, c.requires.0, c.requires.1) (c.requires.0, c.requires.1, c.requires.2) c.difference-d.ensures c.difference-e.ensures c.new_window-window.ensures,
)

pub returns : goal.returns
returns c =
    terms_are c.args.self.now.meter c.args.self.now.together c.args.x c.args.one c.args.two c.args.three (c.requires.3, c.requires.0, c.requires.1) (c.requires.0, c.requires.1, c.requires.2) c.difference-d.ensures c.difference-e.ensures c.new_window-window.ensures
    c.with_terms.ensures
