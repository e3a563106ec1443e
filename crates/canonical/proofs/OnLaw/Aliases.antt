-- Aliases are printed.
use Rattle.std.proofs.Common.{◌≡◌, Option, Some, None, option_map, codes, refl, ap}
use Rattle.ir_terminals.specs.declared.limits.Limits.{Limits}
use Rattle.ir_phrases.specs.Constants.Tree.{TypeTree}
use Rattle.ir_phrases.specs.Instructions.Tree.{SignatureTree}
use Rattle.ir_phrases.specs.Instructions.Dropped.{comma_shape}
use Rattle.ir_syntax.specs.Heads.{GlobalHead}
use Rattle.ir_syntax.specs.Tree.{AliasTypeTree}
use Rattle.ir_syntax.specs.Variables.{variable_row}
use Rattle.ir_syntax.specs.Aliases.{alias_type_of, alias_type_shape, alias_type_core, alias_type_row, target_core, target_row, alias_of, alias_shape, alias_core, global_behind_shape, global_behind_core, global_behind_row, global_row}
use Rattle.ir_terminals.specs.declared.values.PlacedName.{PlacedName}
use Rattle.module_arena.specs.Module.{Bytes, AliasType, PlainType, FunctionType, Alias}
use Rattle.canonical.specs.Phrase as phrase
use Rattle.canonical.specs.Phrase.{comma, ◌␣◌, ◌⌢◌}
use Rattle.canonical.specs.Names as names
use Rattle.canonical.specs.Canonical.{linkage_phrase, alias_type, alias_phrase}
use Rattle.canonical.specs.Items.Unplaced.{unplaced_type, unplaced_name, unplaced_signature, unplaced_alias_type, unplaced}
use Rattle.canonical.specs.Items.Parts.{name_tree}
use Rattle.canonical.specs.Items.Items.{written_linkage, alias_type_tree, alias_item}
use Rattle.canonical.proofs.OnLaw.Printed.{IsPrinted}
use Rattle.canonical.specs.Law.Written.{IsNameText}
use Rattle.canonical.specs.Law.Texts.{IsAliasTypeText, IsAliasText}
use Rattle.canonical.proofs.OnLaw.Joined.{spaced, tight, right_none}
use Rattle.canonical.proofs.OnLaw.Rows.{printed_as, printed_labelled, printed_mapped, printed_chain, printed_both, printed_pair, printed_second, printed_left}
use Rattle.canonical.proofs.OnLaw.Words.{printed_comma, printed_ptr, printed_alias_word}
use Rattle.canonical.proofs.OnLaw.Tokens as tokens
use Rattle.canonical.proofs.OnLaw.Types as types
use Rattle.canonical.proofs.OnLaw.Constants.{starts_comma}
use Rattle.canonical.proofs.OnLaw.Calls.{printed_no_parameters, printed_parameters}
use Rattle.canonical.proofs.OnLaw.Functions.{printed_written}
use Rattle.canonical.proofs.OnLaw.Variables.{unplaced_global_head, printed_global_head}

same_alias_type : (t : TypeTree) (s : Option SignatureTree) → unplaced_alias_type (alias_type_of t s) ≡ alias_type_of (unplaced_type t) (option_map unplaced_signature s)
same_alias_type t None = refl
same_alias_type t (Some s) = refl

-- , ptr GLOBAL
printed_target : (name : Bytes) → IsNameText name → IsPrinted target_row unplaced_name (name_tree name) (comma ␣ phrase.word (codes "ptr") ␣ names.global name)
unfolding target_core
printed_target name h = printed_labelled comma_shape (printed_second spaced printed_comma (printed_second spaced printed_ptr (tokens.printed_global name h)))

module _ (limits : Limits) where
  printed_alias_type : (t : AliasType) → IsAliasTypeText limits.nesting t → IsPrinted (alias_type_row limits) unplaced_alias_type (alias_type_tree t) (alias_type t)
  unfolding alias_type_core
  printed_alias_type (PlainType t) h =
      printed_labelled alias_type_shape (printed_both alias_type_of unplaced_alias_type alias_type_of same_alias_type right_none (types.printed_type limits t limits.nesting h) (printed_no_parameters limits))
  printed_alias_type (FunctionType s) h =
      printed_labelled alias_type_shape (printed_both alias_type_of unplaced_alias_type alias_type_of same_alias_type spaced (types.printed_type limits s.returns limits.nesting h.0) (printed_parameters limits s.parameters s.variadic h.1))

  module _ (a : Alias) where
    abbrev rest_tree : AliasTypeTree × PlacedName
    rest_tree = (alias_type_tree a.ty, name_tree a.target)

    -- behind the head, wherever that stands
    behind_head : (h : GlobalHead) → IsAliasTypeText limits.nesting a.ty → IsNameText a.target → IsPrinted (global_behind_row limits h) unplaced (alias_of (unplaced_global_head h) rest_tree) (phrase.word (codes "alias") ␣ alias_type a.ty ⌢ comma ␣ phrase.word (codes "ptr") ␣ names.global a.target)
    unfolding global_behind_core alias_core
    behind_head h t n =
        printed_labelled global_behind_shape (printed_left (variable_row limits h) (printed_labelled alias_shape
        (printed_mapped (alias_of h) unplaced (alias_of (unplaced_global_head h)) (λ w. refl)
        (printed_second spaced printed_alias_word
        (printed_pair (tight (starts_comma (phrase.word (codes "ptr") ␣ names.global a.target))) (printed_alias_type a.ty t) (printed_target a.target n))))))

    pub printed_alias : IsAliasText limits.nesting a → IsPrinted (global_row limits) unplaced (alias_item a) (alias_phrase a)
    printed_alias h =
        printed_chain global_behind_shape spaced
        (printed_global_head a.name (written_linkage a.linkage) (linkage_phrase a.linkage) h.0 (printed_written a.linkage))
        (λ g is. printed_as (ap (λ (x : GlobalHead). alias_of x rest_tree) is) (behind_head g h.1 h.2))
