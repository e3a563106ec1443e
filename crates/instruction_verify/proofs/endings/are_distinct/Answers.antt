use Rattle.std.proofs.Common.{sym, ap, ◌∙◌, option_to_list}
use Rattle.instruction_verify.specs.Parts.{numbers_at}
use Rattle.instruction_verify.proofs.DistinctTold.{none_apart, none_kept, number_again, number_apart, number_kept}
use Rattle.instruction_verify.proofs.endings.are_distinct.Goals as goal
use Rattle.instruction_verify.proofs.endings.are_distinct.Goals.{in-Some+in_ok-insert-in-Some+else-not-branch, in-None}

pub returns-then-not-branch : goal.returns-then-not-branch
returns-then-not-branch c =
    let a = c.args.judge.now in
    let one = ap option_to_list (sym c.number_of.ensures ∙ c.in-Some.is) in
    number_again (numbers_at a) c.args.cases.now c.cases.case-index c.case-item.result c.cases-test.true c.case-item.is c.cases.seen.keys c.cases.invariant.keys c.cases.invariant.distinct
    c.in-Some.number one (sym c.if-not-branch.true ∙ c.in_ok-insert-in-Some.ensures.added)

pub cases-preserved : goal.cases-preserved
cases-preserved c =
    let a = c.args.judge.now in
    elim c.match-number_of.branch [
      | in-Some+in_ok-insert-in-Some+else-not-branch w ↦
          let one = ap option_to_list (sym c.number_of.ensures ∙ w.in-Some.is) in
          let new = sym w.if-not-branch.false ∙ w.in_ok-insert-in-Some.ensures.added in
          record {
            keys = ap (λ s. s.keys) w.seen-is ∙ number_kept (numbers_at a) c.args.cases.now c.cases.case-index c.case-item.result c.cases-test.true c.case-item.is c.cases.seen.keys c.cases.invariant.keys c.cases.invariant.distinct
                _ w.in-Some.number one new w.in_ok-insert-in-Some.ensures.keys;
            distinct = number_apart (numbers_at a) c.args.cases.now c.cases.case-index c.case-item.result c.cases-test.true c.case-item.is c.cases.seen.keys c.cases.invariant.keys c.cases.invariant.distinct w.in-Some.number one new;
          }
      | in-None w ↦
          let none = ap option_to_list (sym c.number_of.ensures ∙ w.in-None.is) in
          record {
            keys = ap (λ s. s.keys) w.seen-is ∙ none_kept (numbers_at a) c.args.cases.now c.cases.case-index c.case-item.result c.cases-test.true c.case-item.is c.cases.seen.keys c.cases.invariant.keys c.cases.invariant.distinct none;
            distinct = none_apart (numbers_at a) c.args.cases.now c.cases.case-index c.case-item.result c.cases-test.true c.case-item.is c.cases.seen.keys c.cases.invariant.keys c.cases.invariant.distinct none;
          }
    ]
