use Rattle.std.proofs.Common.{◌≤◌, length, map, refl, ap, subst, ◌∙◌, arith}
use Rattle.std.specs.Prelude.{IfSome}
use Rattle.record_read.specs.Fields.{texts_of}
use Rattle.record_read.specs.declared.entry.NextEntry.TheVariants.{Block, Record, End}
use Rattle.bitcode_read.proofs.OnHead.Finding.{gone}
use Rattle.bitcode_read.specs.Ahead.Bodies.{names_given}
use Rattle.bitcode_read.specs.Ahead.Entries.{DeclaresBy, declaring}
use Rattle.bitcode_read.proofs.OnAhead.Declaring.{declared_all, declared_last, declared_one, declared_over, declares_none, passed_block}
use Rattle.bitcode_read.proofs.ahead.declare.declare_block.Goals as goal

pub entries-init : goal.entries-init
entries-init c = (c.requires, omega arith, λ inside others before counted. declares_none _ (map names_given c.args.bodies.now) c.args.arena.now inside others 0 _ _ refl counted before)

pub entries-preserved-in-Some : goal.entries-preserved-in-Some
entries-preserved-in-Some c =
    let next = gone c.entries.reader c.next.new.self c.in_ok-code.field-0 (Record c.in-Record.code) c.in_ok-code.ensures c.in-Record.is in
    let one = c.in_ok-now-in-Record.ensures in (
      one.spent ∙ next.0,
      subst (λ o. IfSome o (λ n. n ≤ length c.args.bodies.now)) c.in-Some.is one.few,
      λ inside others before counted.
          declared_one _ (map names_given c.args.bodies.now) c.args.arena.now inside others c.entries.used c.entries.arena c.entries.due c.entries.reader (c.entries.invariant.2 inside others before counted) c.next.new.self _ c.in-Record.code _ next.2 one.left c.in-Some.now c.due_behind-left.result c.due_behind-left.ensures
          (λ operands at. subst (λ o. DeclaresBy (texts_of c.args.texts.now) (map names_given c.args.bodies.now) c.entries.used operands c.entries.arena (declaring c.in-Record.code) o c.declare_record.new.arena) c.in-Some.is (one.declares operands at)),
    )

pub entries-smaller-in-Some : goal.entries-smaller-in-Some
entries-smaller-in-Some c =
    let next = gone c.entries.reader c.next.new.self c.in_ok-code.field-0 (Record c.in-Record.code) c.in_ok-code.ensures c.in-Record.is in
    let size = ap length c.in_ok-now-in-Record.ensures.left in
    omega (arith, next.1, size)

pub returns-in-None : goal.returns-in-None
returns-in-None c =
    let next = gone c.entries.reader c.next.new.self c.in_ok-code.field-0 (Record c.in-Record.code) c.in_ok-code.ensures c.in-Record.is in
    let one = c.in_ok-now-in-Record.ensures in
    λ inside others before counted.
    declared_last _ (map names_given c.args.bodies.now) c.args.arena.now inside others c.entries.used c.entries.arena c.entries.due c.entries.reader (c.entries.invariant.2 inside others before counted) c.next.new.self c.declare_record.new.reader c.in-Record.code c.declare_record.new.arena next.2 one.left
    (λ operands at. subst (λ o. DeclaresBy (texts_of c.args.texts.now) (map names_given c.args.bodies.now) c.entries.used operands c.entries.arena (declaring c.in-Record.code) o c.declare_record.new.arena) c.in-None.is (one.declares operands at))

pub entries-preserved : goal.entries-preserved
entries-preserved c =
    let next = gone c.entries.reader c.next.new.self c.in_ok-code.field-0 (Block c.in-Block.field-0) c.in_ok-code.ensures c.in-Block.is in
    let over = c.in_ok-pass_block-in-Block.ensures in (
      over.0,
      c.entries.invariant.1,
      λ inside others before counted. passed_block _ (map names_given c.args.bodies.now) c.args.arena.now inside others c.entries.used c.entries.arena c.entries.due c.entries.reader (c.entries.invariant.2 inside others before counted) c.next.new.self _ c.in-Block.field-0 next.2 over.3,
    )

pub returns-in-End : goal.returns-in-End
returns-in-End c =
    let next = gone c.entries.reader c.next.new.self c.in_ok-code.field-0 End c.in_ok-code.ensures c.in-End.is in
    λ inside others before counted. declared_all _ (map names_given c.args.bodies.now) c.args.arena.now inside others c.entries.used c.entries.arena c.entries.due c.entries.reader (c.entries.invariant.2 inside others before counted) _ next.2

pub returns-then-due-eq0 : goal.returns-then-due-eq0
returns-then-due-eq0 c = λ inside others before counted.
    declared_over _ (map names_given c.args.bodies.now) c.args.arena.now inside others c.entries.used c.entries.arena c.entries.due c.entries.reader (c.entries.invariant.2 inside others before counted) c.if-due-eq0.true
