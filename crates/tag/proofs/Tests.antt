-- What `search` is given to compare a chain of tests in the code with the chain of a definition.
use Rattle.std.proofs.lemmas.Bool.Decides.{nat_tests}

pub ruleset tests = nat_tests
