-- `run_coding::write_entry` meets its contract. Assumes nothing.
use native.Mathlib.Omega.{arith}
use Rattle.coding.proofs.run_coding.write_entry.Goals as goal

pub write_number-requires-in_default : goal.write_number-requires-in_default
write_number-requires-in_default c = omega (arith, (c.requires.0 c.in_default.in_default-own.rest.0.0.1 c.in_default.in_default-own.rest.0.1 c.in_default.in_default-own.rest.1))

pub returns-in-1 : goal.returns-in-1
returns-in-1 c = rw c.in-1.is c.write_number.ensures

pub returns-in-2 : goal.returns-in-2
returns-in-2 c = rw c.in-2.is c.write_number-in-2.ensures

pub returns-in-4 : goal.returns-in-4
returns-in-4 c = rw c.in-4.is c.write_number-in-4.ensures

pub returns-in_default : goal.returns-in_default
returns-in_default c =
    rw (c.requires.0 c.in_default.in_default-own.rest.0.0.1 c.in_default.in_default-own.rest.0.1 c.in_default.in_default-own.rest.1) c.write_number-in_default.ensures
