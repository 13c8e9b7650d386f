use Rattle.std.proofs.Common.{[], arith}
use Rattle.reader.proofs.Wholes.{empty_reads, script_from}
use Rattle.reader.proofs.read_script.ReadScript.new.Goals as goal

pub invariant_of-result-2 : goal.invariant_of-result-2
invariant_of-result-2 c =
    let s = c.in_ok-source.ensures.len in
    let n = c.in_ok-nodes.ensures.len in
    let f = c.in_ok-functions.ensures.len in
    let d = c.in_ok-formals.ensures.len in record {
      source_room = c.in_ok-source.ensures.capacity;
      script = ∣ script_from [] _ [] c.in_ok-source.ensures.items empty_reads c.in_ok-nodes.ensures.items c.in_ok-functions.ensures.items c.in_ok-formals.ensures.items ∣₁;
      source_few = omega arith;
      nodes_few = omega arith;
      functions_few = omega arith;
      formals_few = omega arith;
    }
