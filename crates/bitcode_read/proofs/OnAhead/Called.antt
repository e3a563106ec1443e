-- Parameters, one more at a time.
use Rattle.std.proofs.Common.{◌≡◌, ◌+◌, ℕ, suc, List, [], ◌∷◌, ◌++◌, Some, None, slice_get, drop, sym, ap, ◌∙◌, add-one}
use Rattle.std.proofs.lemmas.List.{append_assoc, append-nil}
use Rattle.module_arena.specs.declared.entry.LocalName.{LocalName}
use Rattle.module_arena.specs.declared.entry.Parameter.{Parameter}
use Rattle.bitcode_read.specs.Ahead.Entries.{name_or_number, parameters_called}
use Rattle.bitcode_read.proofs.OnAhead.Dropped.{drop_none, drop_some}

pub called_more : (names : List LocalName) (types : List ℕ) (items now : List Parameter) (place next ty : ℕ) (name : LocalName) → items ++ parameters_called names place (drop place types) ≡ parameters_called names 0 types → slice_get types place ≡ Some ty
    → name ≡ name_or_number names place → now ≡ items ++ record { ty = ty; name = name } ∷ [] → next ≡ place + 1 → now ++ parameters_called names next (drop next types) ≡ parameters_called names 0 types
called_more names types items now place next ty name h at called more is =
    let one : next ≡ suc place = is ∙ add-one place in
    (λ j. more j ++ parameters_called names (one j) (drop (one j) types))
    ∙ (append_assoc items (record { ty = ty; name = name } ∷ []) (parameters_called names (suc place) (drop (suc place) types))
    ∙ (ap (λ n. items ++ record { ty = ty; name = n } ∷ parameters_called names (suc place) (drop (suc place) types)) called
    ∙ (ap (λ l. items ++ parameters_called names place l) (sym (drop_some types place ty at)) ∙ h)))

pub called_all : (names : List LocalName) (types : List ℕ) (items : List Parameter) (place : ℕ) → items ++ parameters_called names place (drop place types) ≡ parameters_called names 0 types → slice_get types place ≡ None → items ≡ parameters_called names 0 types
called_all names types items place h at = sym (append-nil items) ∙ (ap (λ l. items ++ parameters_called names place l) (sym (drop_none types place at)) ∙ h)
