-- `phr::header::header_byte` meets its contract: each place has its test.
use Rattle.std.proofs.Common.{sym, arith, eq-eqb, ne_eqb}
use Rattle.phr.specs.Reading.{tests_of}
use Rattle.phr.proofs.HeaderLaws.{no_test_past_kind}
use Rattle.phr.proofs.header.header_byte.Goals as goal

pub returns-in-0 : goal.returns-in-0
unfolding tests_of
returns-in-0 c = rw c.in-0.is

pub returns-in-1 : goal.returns-in-1
unfolding tests_of
returns-in-1 c = rw c.in-1.is

pub returns-in-2 : goal.returns-in-2
unfolding tests_of
returns-in-2 c = rw c.in-2.is

pub returns-then-b-eq1 : goal.returns-then-b-eq1
unfolding tests_of
returns-then-b-eq1 c = rw (c.in-3.is, eq-eqb _ 1 c.if-b-eq1.true)

pub returns-else-b-eq1 : goal.returns-else-b-eq1
unfolding tests_of
returns-else-b-eq1 c = rw (c.in-3.is, ne_eqb _ 1 c.if-b-eq1.false)

pub returns-in-4 : goal.returns-in-4
unfolding tests_of
returns-in-4 c = rw c.in-4.is

pub returns-in-5 : goal.returns-in-5
unfolding tests_of
returns-in-5 c = rw c.in-5.is

pub returns-in_default : goal.returns-in_default
returns-in_default c = let rest = c.in_default.in_default-own.rest in sym (no_test_past_kind _ _ _ (omega (arith, rest.1, rest.0.1, rest.0.0.1, rest.0.0.0.1, rest.0.0.0.0.1, rest.0.0.0.0.0.1)))
