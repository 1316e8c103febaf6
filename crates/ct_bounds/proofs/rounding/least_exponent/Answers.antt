use Rattle.std.proofs.Common.{◌<◌, ◌≤◌, arith}
use Rattle.def_profile.specs.declared.bounds.TheConstants.{MOST_UNITS}
use Rattle.def_words.specs.LeastBounds.{units}
use Rattle.ct_bounds.proofs.Candidates.{IsFirst, found_first, found_next}
use Rattle.ct_bounds.proofs.rounding.least_exponent.Goals as goal
use Rattle.ct_bounds.proofs.rounding.least_exponent.Goals.{then-ceil-base, else-ceil-base}

pub returns-then-exponent-le-LAST_EXPONENT-clause-value : goal.returns-then-exponent-le-LAST_EXPONENT-clause-value
returns-then-exponent-le-LAST_EXPONENT-clause-value c =
    let first : IsFirst c.args.base c.args.top c.first_candidate-first.result = record { above = c.first_candidate-first.ensures.above; below = c.first_candidate-first.ensures.below } in
    elim c.if-ceil-base.branch [
      | then-ceil-base w ↦
          let serves : units c.args.base c.args.top c.first_candidate-first.result ≤ MOST_UNITS = rw (← c.ceil.ensures.value) w.if-ceil-base.true in
          rw w.exponent-is ((found_first c.args.base c.args.top c.first_candidate-first.result c.requires.order first serves).small (omega (arith, w.exponent-is, c.if-exponent-le-LAST_EXPONENT.true)))
      | else-ceil-base w ↦
          let fails : MOST_UNITS < units c.args.base c.args.top c.first_candidate-first.result = rw (← c.ceil.ensures.value) w.if-ceil-base.false in
          rw w.exponent-is ((found_next c.args.base c.args.top c.first_candidate-first.result c.requires.order first fails).small (omega (arith, w.exponent-is, c.if-exponent-le-LAST_EXPONENT.true)))
    ]

pub returns-else-exponent-le-LAST_EXPONENT-clause-value : goal.returns-else-exponent-le-LAST_EXPONENT-clause-value
returns-else-exponent-le-LAST_EXPONENT-clause-value c =
    let first : IsFirst c.args.base c.args.top c.first_candidate-first.result = record { above = c.first_candidate-first.ensures.above; below = c.first_candidate-first.ensures.below } in
    elim c.if-ceil-base.branch [
      | then-ceil-base w ↦
          let serves : units c.args.base c.args.top c.first_candidate-first.result ≤ MOST_UNITS = rw (← c.ceil.ensures.value) w.if-ceil-base.true in
          (found_first c.args.base c.args.top c.first_candidate-first.result c.requires.order first serves).large (omega (arith, w.exponent-is, c.if-exponent-le-LAST_EXPONENT.false))
      | else-ceil-base w ↦
          let fails : MOST_UNITS < units c.args.base c.args.top c.first_candidate-first.result = rw (← c.ceil.ensures.value) w.if-ceil-base.false in
          (found_next c.args.base c.args.top c.first_candidate-first.result c.requires.order first fails).large (omega (arith, w.exponent-is, c.if-exponent-le-LAST_EXPONENT.false))
    ]
