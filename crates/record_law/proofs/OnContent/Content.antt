-- Which records a tree has is known from its content.
use Rattle.std.proofs.Common.{◌≡◌, ap, ◌∙◌, sym, refl}
use Rattle.bit_tree.specs.Stream.{StreamTree, nothing, block, definition, values}
use Rattle.bit_tree.specs.Content.{Content, no_content, block_of, record_of, content}
use Rattle.record_table.specs.Faults.{Records, no_more, a_record, but_for_info, records}
use Rattle.record_table.specs.Records.{read, fault_in}
use Rattle.record_law.specs.Content.Laws.{ContentIsEnough}

-- the records of a content
abbrev records_of : Content → Records
records_of no_content = no_more
records_of (block_of id inside behind) = but_for_info id (records_of inside) (records_of behind)
records_of (record_of code operands blob behind) = a_record code operands (records_of behind)

records_are : (tree : StreamTree) → records tree ≡ records_of (content tree)
unfolding content
records_are nothing = refl
records_are (block id width words inside behind) = ap (λ (r : Records). but_for_info id r (records behind)) (records_are inside) ∙ ap (λ (r : Records). but_for_info id (records_of (content inside)) r) (records_are behind)
records_are (definition id t behind) = records_are behind
records_are (values id code operands has_blob blob behind) = ap (λ (r : Records). a_record code operands r) (records_are behind)

pub content_is_enough : ContentIsEnough
content_is_enough one other same =
    let alike : records one ≡ records other = records_are one ∙ (ap records_of same ∙ sym (records_are other)) in
    (λ m h. ap read (sym alike) ∙ h, ap (λ (r : Records). fault_in (read r)) alike)
