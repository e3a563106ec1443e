use Rattle.std.proofs.Common.{◌≡◌, refl, [], ◌∷◌, sym, ◌∙◌, ap, map}
use Rattle.std.proofs.lemmas.List.{map-append}
use Rattle.ir_terminals.specs.Position.{tokens_left}
use Rattle.ir_phrases.proofs.OnInstructions.Lists.{listed_is, listed_part, part_less}
use Rattle.ir_phrases.proofs.instructions.listed.more_parts.Goals as goal

pub parts-init : goal.parts-init
parts-init g c =
    let part = g.P.Part in
    let none = c.in_ok-parts.ensures.items in
    let pushed = c.in_ok-push.ensures.items in
    let items : c.push.new.self.items ≡ c.args.first ∷ [] = rw none at pushed in
    record {
      so_far = rw items (sym (listed_is part.classes part.core c.requires.reads c.requires.no_metadata c.args.cursor.now.limits (part.view c.args.first ∷ []) (tokens_left c.args.cursor.now)));
      limits = refl;
      text = refl;
    }

pub parts-smaller : goal.parts-smaller
parts-smaller g c =
    let part = g.P.Part in
    part_less part.classes part.core c.requires.reads c.requires.no_metadata c.has_part.new.cursor.limits (part.view c.in_ok-part_of.field-0) c.in_ok-has_part.field-0 (tokens_left c.parts.cursor) (tokens_left c.has_part.new.cursor) (tokens_left c.part_of.new.cursor) c.if-branch.true c.in_ok-has_part.ensures.0 c.in_ok-part_of.ensures.0

pub parts-preserved : goal.parts-preserved
parts-preserved g c =
    let part = g.P.Part in
    let limits = c.in_ok-has_part.ensures.1 ∙ c.parts.invariant.limits in
    record {
      so_far =
          sym (listed_part part.classes part.core c.requires.reads c.requires.no_metadata c.args.cursor.now.limits c.has_part.new.cursor.limits (map part.view c.parts.parts.items) (map part.view c.push-in-parts.new.self.items) (part.view c.in_ok-part_of.field-0) c.in_ok-has_part.field-0 (tokens_left c.parts.cursor) (tokens_left c.has_part.new.cursor) (tokens_left c.part_of.new.cursor) limits (ap (map part.view) c.in_ok-push-2.ensures.items ∙ map-append part.view c.parts.parts.items (c.in_ok-part_of.field-0 ∷ [])) c.if-branch.true c.in_ok-has_part.ensures.0 c.in_ok-part_of.ensures.0)
          ∙ c.parts.invariant.so_far;
      limits = c.in_ok-part_of.ensures.1 ∙ limits;
      text = c.in_ok-part_of.ensures.2 ∙ (c.in_ok-has_part.ensures.2 ∙ c.parts.invariant.text);
    }
