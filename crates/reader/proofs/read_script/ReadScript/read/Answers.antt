use Rattle.std.proofs.Common.{◌≡◌, ◌+◌, ◌≤◌, [], ◌++◌, length, is_ok, vec_items, vec_len, vec_capacity, ap, ◌∙◌, arith}
use Rattle.std.proofs.lemmas.Bool.{cond-true}
use Rattle.script.specs.Flat.{flat_program, formals_of, functions_of}
use Rattle.reader.specs.Script.{refused}
use Rattle.reader.proofs.Wholes.{empty_reads, script_from, outcome_reads, outcome_refuses, means, first_refusal_lem}
use Rattle.reader.proofs.read_script.ReadScript.read.Goals as goal
use Rattle.reader.proofs.read_script.ReadScript.read.Goals.{After-extend_from_slice}

pub invariant_of-self : goal.invariant_of-self
invariant_of-self c =
    let old = c.args.self.now.source_room in
    let room : 8192 ≤ vec_capacity c.clear.new.self = omega arith in record {
      source_room = room;
      script =
          ∣ script_from [] _ [] c.clear.ensures.items empty_reads c.clear-2.ensures.nodes c.clear-2.ensures.functions c.clear-2.ensures.formals ∣₁;
      source_few = omega arith;
      nodes_few = omega arith;
      functions_few = omega arith;
      formals_few = omega arith;
    }

pub invariant_of-self-in-Err : goal.invariant_of-self-in-Err
invariant_of-self-in-Err c =
    let old = c.args.self.now.source_room in
    let room : 8192 ≤ vec_capacity c.clear.new.self = omega arith in record {
      source_room = room;
      script =
          ∣ script_from [] _ [] c.clear.ensures.items empty_reads c.clear-in-Err.ensures.nodes c.clear-in-Err.ensures.functions c.clear-in-Err.ensures.formals ∣₁;
      source_few = omega arith;
      nodes_few = omega arith;
      functions_few = omega arith;
      formals_few = omega arith;
    }

pub returns-in-Err : goal.returns-in-Err
returns-in-Err c = (
  refused c.if-source-gt8192.false (first_refusal_lem c.args.source.now _ _ (outcome_refuses c.args.source.now c.new-cursor.result c.new-cursor.ensures c.in-Err.ensures)),
  record { source = c.clear.ensures.items; nodes = c.clear-in-Err.ensures.nodes; functions = c.clear-in-Err.ensures.functions; formals = c.clear-in-Err.ensures.formals },
)

-- the source is kept, since there is room for it
filled : (c : After-extend_from_slice) → vec_items c.extend_from_slice.new.self ≡ c.args.source.now
filled c =
    let old = c.args.self.now.source_room in
    let fits : vec_len c.clear.new.self + length c.args.source.now ≤ vec_capacity c.clear.new.self = omega arith in
    c.extend_from_slice.ensures.items ∙ cond-true (is_ok c.extend_from_slice.result) _ _ (c.extend_from_slice.ensures.succeeds fits) ∙ ap (λ l. l ++ c.args.source.now) c.clear.ensures.items

pub invariant_of-self-2 : goal.invariant_of-self-2
invariant_of-self-2 c =
    let old = c.args.self.now.source_room in
    let room : 8192 ≤ vec_capacity c.extend_from_slice.new.self = omega arith in
    let w = c.in_default.ensures in
    let a = w.written in
    let b = c.clear-2.ensures in
    let few : vec_len c.extend_from_slice.new.self ≤ 8192 =
    let long = c.extend_from_slice.new.self.ok.0 ∙ ap length (filled c) in
    omega arith in record {
      source_room = room;
      script =
          ∣ script_from c.args.source.now _ w.tree (filled c) (outcome_reads c.args.source.now c.new-cursor.result c.new-cursor.ensures w)
          (a.nodes ∙ ap (λ l. l ++ flat_program w.tree) b.nodes)
          (a.functions ∙ (λ i. b.functions i ++ functions_of (b.formals_len i) (b.nodes_len i) w.tree))
          (a.formals ∙ ap (λ l. l ++ formals_of w.tree) b.formals) ∣₁;
      source_few = few;
      nodes_few = omega arith;
      functions_few = omega arith;
      formals_few = omega arith;
    }

pub returns : goal.returns
returns c =
    let w = c.in_default.ensures in
    let a = w.written in
    let b = c.clear-2.ensures in
    record {
      small = c.if-source-gt8192.false;
      source = filled (goal.at.returns c).After-extend_from_slice;
      program = w.tree;
      means = means c.args.source.now w.tree (outcome_reads c.args.source.now c.new-cursor.result c.new-cursor.ensures w);
      nodes = a.nodes ∙ ap (λ l. l ++ flat_program w.tree) b.nodes;
      functions = a.functions ∙ (λ i. b.functions i ++ functions_of (b.formals_len i) (b.nodes_len i) w.tree);
      formals = a.formals ∙ ap (λ l. l ++ formals_of w.tree) b.formals;
    }
