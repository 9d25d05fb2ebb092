-- A turn counts 65,536 bytes at most.
use Rattle.std.proofs.Common.{◌≡◌, ◌*◌, ◌≤◌, ℕ, List, length}
use Rattle.std.specs.Io.KnownBytes.{Consumes}
use Rattle.input.proofs.standard.count_rest.Given as goal

abbrev pub invariant-loop : goal.invariant-loop
invariant-loop g l = record {
  few : l.total ≤ 65536 * l.counter;
  same : 65536 ≡ length l.space;
  bytes : (rest : List ℕ) × (length rest ≡ l.total) × Consumes (g.R.Read.remaining l.initial.from) (g.R.Read.remaining l.from) rest;
}
