use Rattle.std.proofs.Common.{◌≡◌, List, [], All, sym, ap, ◌∙◌, subst}
use Rattle.std.specs.Vec.{with_items}
use Rattle.std.proofs.lemmas.List.{with_items_is}
use Rattle.std.proofs.lemmas.List.Elements.{All-weaker}
use Rattle.entry_copy.specs.Tables.{Tables, tables_of, with_types}
use Rattle.module_linker.specs.Stages.Copied.{AreCopied}
use Rattle.module_linker.specs.Stages.NewIds.{AllHaveNewIds}
use Rattle.module_linker.proofs.making.declare_in.Goals as goal

-- where nothing but structs and types is known, no constant is
none_known : (ts : List Tables) → All (λ (t : Tables). t ≡ with_types (tables_of t.structs) t.types) ts → All (λ (t : Tables). t.constants ≡ []) ts
none_known ts h = All-weaker (λ (t : Tables). t ≡ with_types (tables_of t.structs) t.types) (λ (t : Tables). t.constants ≡ []) (λ t e. ap (λ (x : Tables). x.constants) e) ts h

pub declare_entries-requires-clause-types : goal.declare_entries-requires-clause-types
declare_entries-requires-clause-types c = rw c.deref.ensures.value c.in_ok-copiers.ensures.types

pub copy_entries-requires-clause-types : goal.copy_entries-requires-clause-types
copy_entries-requires-clause-types c = rw c.deref_mut.ensures.value (rw c.deref.ensures.value at c.in_ok-ids.ensures.types)

pub copy_entries-requires-clause-none : goal.copy_entries-requires-clause-none
copy_entries-requires-clause-none c = rw c.deref_mut.ensures.value (none_known c.in_ok-copiers.copiers.items c.in_ok-copiers.ensures.nothing_else)

pub copy_entries-requires-clause-ids : goal.copy_entries-requires-clause-ids
copy_entries-requires-clause-ids c = c.deref-2.ensures.value ∙ c.in_ok-ids.ensures.ids

pub returns-clause-copied : goal.returns-clause-copied
returns-clause-copied c =
    let v = c.in_ok-copiers.copiers in
    let after = c.copy_entries.new.copiers in
    let copied = c.in_ok-copy_entries.ensures.copied in
    let types = c.in_ok-copiers.ensures.types in
    let now = copied.count in
    let before = types.count in
    let items : (with_items v after).items ≡ after = with_items_is v after (now ∙ sym before ∙ sym v.ok.0) in
    subst (AreCopied c.args.parts.now c.copy_entries.new.into.arena) (sym items) copied

pub returns-clause-new : goal.returns-clause-new
returns-clause-new c =
    let v = c.in_ok-copiers.copiers in
    let after = c.copy_entries.new.copiers in
    let copied = c.in_ok-copy_entries.ensures.copied in
    let types = c.in_ok-copiers.ensures.types in
    let now = copied.count in
    let before = types.count in
    let items : (with_items v after).items ≡ after = with_items_is v after (now ∙ sym before ∙ sym v.ok.0) in
    subst (AllHaveNewIds c.args.parts.now c.copy_entries.new.into.arena) (sym items) c.in_ok-copy_entries.ensures.new
