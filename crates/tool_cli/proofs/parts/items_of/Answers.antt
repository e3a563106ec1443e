use Rattle.std.proofs.Common.{◌≡◌, ◌⊎◌, ℕ, true, IfErr, IfOk, List, subst}
use Rattle.ir_syntax.specs.Answers.{HasItems}
use Rattle.ir_syntax.specs.Refusal.{IsRefused}
use Rattle.ir_syntax.specs.Tree.{ItemTree}
use Rattle.ir_syntax.specs.View.{items_view}
use Rattle.ir_syntax.specs.declared.read.SyntaxFault.TheVariants as faults
use Rattle.module_arena.specs.Names.{are_bytes}
use Rattle.tool_cli.proofs.parts.items_of.Goals as goal

pub read_items-requires : goal.read_items-requires
read_items-requires c = rw c.bytes-read.ensures c.requires

pub returns-clause-bytes : goal.returns-clause-bytes
returns-clause-bytes c = subst (λ (text : List ℕ). are_bytes text ≡ true) c.bytes-read.ensures c.each_is_byte.ensures

pub returns-clause-items : goal.returns-clause-items
returns-clause-items c = subst (λ (text : List ℕ). IfOk c.read_items.result (λ items. HasItems text (items_view items))) c.bytes-read.ensures c.read_items.ensures.items

pub returns-clause-one : goal.returns-clause-one
returns-clause-one c =
    subst (λ (text : List ℕ). IfOk c.read_items.result (λ items. (others : List ItemTree) → HasItems text others → others ≡ items_view items)) c.bytes-read.ensures c.read_items.ensures.one

pub returns-clause-refused : goal.returns-clause-refused
returns-clause-refused c = subst (λ (text : List ℕ). IfErr c.read_items.result (λ fault. IsRefused text fault ⊎ (fault ≡ faults.Memory))) c.bytes-read.ensures c.read_items.ensures.refused
