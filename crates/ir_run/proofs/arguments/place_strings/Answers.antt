use Rattle.std.proofs.Common.{All, ℕ, ◌+◌, ◌*◌, ◌^◌, ◌≤◌, List, [], ◌∷◌, drop, length, sym, ap, ◌∙◌, subst, arith}
use Rattle.std.proofs.lemmas.List.{length-append}
use Rattle.std.proofs.lemmas.List.Elements.{All-nil}
use Rattle.ir_eval.specs.declared.value.Pointer.{Pointer}
use Rattle.ir_memory.specs.Given.{IsKnown}
use Rattle.run_rules.specs.Opening.{with_string, with_strings}
use Rattle.ir_run.specs.Arguments.{MakesWith, Places}
use Rattle.ir_run.proofs.Blocks.{known_more, none_kept, then_kept}
use Rattle.ir_run.proofs.Words.{string_fits, string_lives, string_more, string_none, strings_begin, strings_end, with_others}
use Rattle.ir_run.proofs.arguments.place_strings.Goals as goal

pub place_string-requires : goal.place_string-requires
place_string-requires c =
    let i = c.strings.invariant in
    record {
      unsealed = i.kept.sealed ∙ c.requires.unsealed;
      next = omega (arith, i.near, i.few, c.requires.next);
    }

pub strings-init : goal.strings-init
strings-init c =
    let none = c.new-blocks.ensures.items in
    record {
      made = ap (λ (l : List Pointer). with_others l (with_strings c.args.strings.now c.args.memory.now)) none ∙ strings_begin (with_strings c.args.strings.now c.args.memory.now);
      known = subst (λ (l : List Pointer). All (IsKnown c.args.memory.now.list) l) (sym none) (All-nil (IsKnown c.args.memory.now.list));
      many = ap length none;
      live = omega arith;
      few = omega arith;
      near = omega arith;
      kept = none_kept c.args.memory.now;
    }

pub strings-preserved : goal.strings-preserved
strings-preserved c =
    let i = c.strings.invariant in
    let ss = c.args.strings.now in
    let k = c.strings.string-index in
    let s = c.string-item.result in
    let blocks = c.strings.blocks.items in
    let m = c.strings.memory in
    let n = c.place_string.new.memory in
    let p = c.in-Some.block in
    let has : Places (with_string s m) p m n =
    subst (λ (bytes : List ℕ). Places (with_string bytes m) p m n) c.bytes.ensures (subst (λ o. MakesWith (with_string c.bytes.result.now m) o m n) c.in-Some.is c.in_ok-block.ensures.made) in
    let items = c.in_ok-push.ensures.items in
    let live = string_lives s m n p has.made in
    let fits = string_fits s m n p has.made in
    record {
      made = ap (λ (l : List Pointer). with_others l (with_strings (drop (k + 1) ss) n)) items
          ∙ string_more ss k s blocks m (with_strings ss c.args.memory.now) c.strings-test.true c.string-item.is i.made n p has.made;
      known = subst (λ (l : List Pointer). All (IsKnown n.list) l) (sym items) (known_more m.list n.list blocks p has.kept.more i.known has.known);
      many = ap length items ∙ length-append blocks (p ∷ []) ∙ ap (λ (j : ℕ). j + 1) i.many;
      live = omega (arith, live, i.live);
      few = omega (arith, fits, i.live);
      near = omega (arith, i.near, c.in_ok-block.ensures.growth);
      kept = then_kept c.args.memory.now m n i.kept has.kept;
    }

pub returns-in_default : goal.returns-in_default
returns-in_default c =
    let s = c.string-item.result in
    let m = c.strings.memory in
    let full = subst (λ o. MakesWith (with_string c.bytes.result.now m) o m c.place_string.new.memory) c.in_default.is c.in_ok-block.ensures.made in
    string_none c.args.strings.now c.strings.string-index s c.strings.blocks.items m (with_strings c.args.strings.now c.args.memory.now) c.strings-test.true c.string-item.is c.strings.invariant.made
    (ap (λ (bytes : List ℕ). with_string bytes m) (sym c.bytes.ensures) ∙ full)

pub returns : goal.returns
returns c =
    let i = c.strings.invariant in
    record {
      made = strings_end c.args.strings.now c.strings.string-index c.strings.blocks.items c.strings.memory (with_strings c.args.strings.now c.args.memory.now) c.strings-test.false i.made;
      known = i.known;
      few = omega (arith, i.few, i.many);
      near = subst (λ (j : ℕ). c.strings.memory.next ≤ c.args.memory.now.next + j * (2 ^ 28 + 2 ^ 17)) (sym i.many) i.near;
      kept = i.kept;
    }
