use Rattle.std.proofs.Common.{◌∙◌, rules, tests}
use Rattle.std.proofs.lemmas.Iterator.{YieldsList-from_slice, YieldsList-from_zip}
use Rattle.std.proofs.lemmas.Iterator.Search.{all_from_yields_List}
use Rattle.typing.specs.declared.types.Want.TheVariants.{Fit}
use Rattle.typing.specs.Faults.{fitted}
use Rattle.typing.proofs.Fitting.{all_fit_zip, all_fit_apart}
use Rattle.typing.proofs.calls.all_fit.Goals as goal

pub returns-then-actuals-formals : goal.returns-then-actuals-formals
returns-then-actuals-formals g c =
    all_from_yields_List (λ p. fitted p.0.ty (Fit (g.T.Typed.type_of p.1))) c.all.new.self _ _ c.all.ensures.ran (YieldsList-from_zip (YieldsList-from_slice c.args.actuals.now cc) (YieldsList-from_slice c.args.formals.now cc)) (λ x b q k. search (rules, tests))
    ∙ all_fit_zip g.T.Typed.type_of c.args.actuals.now c.args.formals.now c.if-actuals-formals.true

pub returns-else-actuals-formals : goal.returns-else-actuals-formals
returns-else-actuals-formals g c = all_fit_apart g.T.Typed.type_of c.args.actuals.now c.args.formals.now c.if-actuals-formals.false
