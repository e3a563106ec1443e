use Rattle.std.proofs.Common.{◌≡◌, ◌^◌, ◌<◌, sym, ◌∙◌, subst, arith}
use Rattle.ir_base.specs.Name.{IsName}
use Rattle.link_rules.specs.Rename.{dotted}
use Rattle.link_names.proofs.Numbers.{dotted_is, dotted_is_name}
use Rattle.link_names.proofs.numbered.dotted.Goals as goal
use Rattle.link_names.proofs.numbered.dotted.Goals.{In_ok-extend}

text_is : (c : In_ok-extend) → c.extend.new.self ≡ dotted c.args.base.now c.args.number
text_is c =
    let small : c.args.number < 2 ^ 64 = omega (arith, c.ranges.number) in
    dotted_is c.args.base.now c.in_ok-text.text c.push.new.self c.as_bytes.result.now c.extend.new.self c.args.number c.requires small
    (c.in_ok-text.ensures ∙ c.text.ensures.bytes) c.in_ok-push.ensures.ok (c.as_bytes.ensures.value ∙ c.format.ensures.text) c.in_ok-extend.ensures.ok

pub whole_name-requires : goal.whole_name-requires
whole_name-requires c =
    let at = (goal.at.whole_name-requires c).In_ok-extend in
    subst IsName (sym (text_is at)) (dotted_is_name c.args.base.now c.args.number c.text.ensures.name)

pub returns : goal.returns
returns c =
    let at = (goal.at.returns c).In_ok-extend in
    c.whole_name.ensures ∙ text_is at
