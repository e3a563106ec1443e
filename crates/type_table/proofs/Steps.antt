-- A list and what is made of it, one element further.
use Rattle.std.proofs.Common.{◌≡◌, ℕ, zero, suc, ◌+◌, ◌<◌, ap, refl, ◌∙◌, List, [], ◌∷◌, ◌++◌, Bool, Option, Some, take, slice_get, map, length, get_or, arith, add-one}
use Rattle.std.specs.List.{fold}
use Rattle.std.proofs.lemmas.Grind.{fold-append}
use Rattle.std.proofs.lemmas.List.{take_more, map-append}
use Rattle.std.proofs.lemmas.Option.{slice_get_within, get_or_from_slice_get}
use Rattle.type_table.specs.declared.ir_type.IrType.{IrType}
use Rattle.type_table.specs.declared.ir_type.StructBody.{StructBody}
use Rattle.type_table.specs.declared.measure.Measure.{Measure}
use Rattle.type_table.specs.Measures.{with_field, empty_struct, measures_at, opaque_measure, push_measure, type_measures, struct_measures, body_measure}

pub take_next : {X : Type 0} (xs : List X) (i : ℕ) (x : X) → slice_get xs i ≡ Some x → take (i + 1) xs ≡ take i xs ++ x ∷ []
take_next xs i x e = take_more xs i x (slice_get_within xs i x e) ∙ ap (λ y. take i xs ++ y ∷ []) (get_or_from_slice_get xs i x x e)

pub fold_next : {A B : Type 0} (f : B → A → B) (b : B) (xs : List A) (i : ℕ) (x : A) → slice_get xs i ≡ Some x → fold f b (take (i + 1) xs) ≡ f (fold f b (take i xs)) x
fold_next f b xs i x e = ap (fold f b) (take_next xs i x e) ∙ fold-append f b (take i xs) (x ∷ [])

-- one field further
pub fields_next : (packed : Bool) (types : List Measure) (ids : List ℕ) (i id : ℕ) → slice_get ids i ≡ Some id
    → fold (with_field packed) empty_struct (measures_at types (take (i + 1) ids))
    ≡ with_field packed (fold (with_field packed) empty_struct (measures_at types (take i ids))) (get_or types id opaque_measure)
fields_next packed types ids i id at =
    let f : ℕ → Measure = λ k. get_or types k opaque_measure in
    ap (λ l. fold (with_field packed) empty_struct (map f l)) (take_next ids i id at)
    ∙ ap (fold (with_field packed) empty_struct) (map-append f (take i ids) (id ∷ []))
    ∙ fold-append (with_field packed) empty_struct (map f (take i ids)) (get_or types id opaque_measure ∷ [])

-- one type further
pub types_next : (structs : List Measure) (types : List IrType) (i : ℕ) (ty : IrType) → slice_get types i ≡ Some ty
    → type_measures structs (take (i + 1) types) ≡ push_measure structs (type_measures structs (take i types)) ty
types_next structs types i ty at = fold_next (push_measure structs) [] types i ty at

structs_suc : (types hads : List Measure) (bodies : List (Option StructBody)) (i : ℕ) (d : Measure) (e : Option StructBody) → i < length hads → i < length bodies
    → struct_measures types (take (suc i) hads) (take (suc i) bodies)
    ≡ struct_measures types (take i hads) (take i bodies) ++ body_measure types (get_or hads i d) (get_or bodies i e) ∷ []
structs_suc types [] bodies i d e k l = absurd (omega arith)
structs_suc types (h ∷ hads) [] i d e k l = absurd (omega arith)
structs_suc types (h ∷ hads) (b ∷ bodies) zero d e k l = refl
structs_suc types (h ∷ hads) (b ∷ bodies) (suc i) d e k l =
    ap (λ ms. body_measure types h b ∷ ms) (structs_suc types hads bodies i d e (omega arith) (omega arith))

-- one struct further
pub structs_next : (types hads : List Measure) (bodies : List (Option StructBody)) (i : ℕ) (d : Measure) (body : Option StructBody) → i < length hads → slice_get bodies i ≡ Some body
    → struct_measures types (take (i + 1) hads) (take (i + 1) bodies)
    ≡ struct_measures types (take i hads) (take i bodies) ++ body_measure types (get_or hads i d) body ∷ []
structs_next types hads bodies i d body k at =
    rw add-one (structs_suc types hads bodies i d body k (slice_get_within bodies i body at))
    ∙ ap (λ b. struct_measures types (take i hads) (take i bodies) ++ body_measure types (get_or hads i d) b ∷ []) (get_or_from_slice_get bodies i body body at)
