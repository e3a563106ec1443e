use Rattle.std.proofs.Common.{◌≡◌, ◌+◌, [], ◌∷◌, map, length, sym, ap, ◌∙◌, subst, arith}
use Rattle.std.proofs.lemmas.List.{length_push}
use Rattle.module_arena.specs.View.{module_of}
use Rattle.linkage_rules.specs.Ids.{modules}
use Rattle.linkage_rules.proofs.Filed.{map_joined}
use Rattle.linkage_rules.proofs.OnResolving.PartNames.{AreNamesUpto, upto_more, all_names, length_mapped}
use Rattle.linkage_rules.specs.Resolving.Meanings.{AreNames}
use Rattle.linkage_rules.proofs.resolving.names.bind_names.Goals as goal

pub loop-part-preserved : goal.loop-part-preserved
loop-part-preserved c =
    let ms = modules c.args.parts.now in
    let old = c.loop-part.names.items in
    let one = c.in_ok-names_of.field-0 in
    record {
      count = ap length c.in_ok-push.ensures.items ∙ length_push old one ∙ ap (λ n. n + 1) c.loop-part.invariant.count;
      names =
          subst (AreNamesUpto ms) (sym (ap (map (λ n. n.entries)) c.in_ok-push.ensures.items ∙ map_joined (λ n. n.entries) old (one ∷ [])))
          (upto_more ms (map (λ n. n.entries) old) one.entries c.loop-part.invariant.names
          (subst (λ k. AreNames ms k one.entries) (sym (length_mapped (λ n. n.entries) old ∙ c.loop-part.invariant.count)) c.in_ok-names_of.ensures));
    }

pub returns : goal.returns
returns c =
    let parts = c.args.parts.now in
    let end : c.loop-part.part ≡ length parts = omega (arith, c.loop-part-test.false, c.loop-part.auto.part-end) in
    all_names (modules parts) (map (λ n. n.entries) c.loop-part.names.items)
    (length_mapped (λ n. n.entries) c.loop-part.names.items ∙ c.loop-part.invariant.count ∙ end ∙ sym (length_mapped module_of parts)) c.loop-part.invariant.names
