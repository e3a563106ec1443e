use Rattle.std.proofs.Common.{List, ap, ℕ, ◌++◌, ◌∙◌}
use Rattle.bitcode_write.specs.Entries.{initialiser_operands}
use Rattle.record_write.proofs.OnOperands.Chain.{last6}
use Rattle.record_write.specs.Operands.Numbered.{texts}
use Rattle.bitcode_write.proofs.entries.put_variable_parts.Goals as goal

pub returns : goal.returns
returns c =
    let a = c.args.numbering.now in
    let o = c.args.operands.now.items in
    let named = c.bytes.ensures ∙ c.text.ensures.bytes in
    last6 _ o _ _ _ _ _ (initialiser_operands a c.args.variable.now) _ _ _ _ _ _
    (c.in_ok-put_text.ensures ∙ ap (λ (n : List ℕ). o ++ (texts a).middle.spell n) named)
    c.in_ok-put_linkage.ensures c.in_ok-put_flag.ensures c.in_ok-put_type.ensures
    (c.in_ok-put_alignment.ensures c.requires.fits.alignment) c.put_initialiser.ensures
