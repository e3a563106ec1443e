use Rattle.std.proofs.Common.{All, List, OnOk, Some, [], ap, length, refl, slice_get, subst, sym}
use Rattle.std.proofs.Common.{ℕ, ◌++◌, ◌<◌, ◌∙◌, ◌∷◌, ◌≡◌}
use Rattle.std.proofs.lemmas.Option.{get_or_from_slice_get, slice_get_within}
use Rattle.std.specs.Option.{option_copied}
use Rattle.bitcode_write.proofs.Chain.{from_empty}
use Rattle.bitcode_write.proofs.Lined.{put_as}
use Rattle.bitcode_write.proofs.TypeLines.{struct_at}
use Rattle.bitcode_write.specs.Entries.{body_operands, define_in}
use Rattle.bitcode_write.specs.Put.{PutsLines}
use Rattle.module_arena.specs.Lists.{Lists}
use Rattle.record_write.specs.Operands.Numbered.{texts}
use Rattle.type_table.specs.Tree.{TreeBody}
use Rattle.type_table.specs.Types.{IsGood, Types, bodies, names}
use Rattle.type_table.specs.Types.{KnowsBody as KnowsOne}
use Rattle.record_write.proofs.OnOperands.Chain.{two}
use Rattle.bitcode_write.proofs.types.put_struct.Goals as goal

pub struct_body-requires : goal.struct_body-requires
struct_body-requires c = subst (λ (t : Types). c.args.id < length t.structs) (sym (c.types-types.ensures ∙ ap (λ (x : Lists). x.table) c.arena.ensures)) c.requires.known

pub struct_name-requires : goal.struct_name-requires
struct_name-requires c = subst (λ (t : Types). c.args.id < length t.structs) (sym (c.types-types.ensures ∙ ap (λ (x : Lists). x.table) c.arena.ensures)) c.requires.known

-- what holds of all holds of the one with that number
one_of : {A : Type 0} (P : A → Type 0) (xs : List A) → All P xs → (k : ℕ) (x : A) → slice_get xs k ≡ Some x → P x
one_of P xs all k x at = subst P (get_or_from_slice_get xs k x x at) (all k x (slice_get_within xs k x at))

pub put_body-requires : goal.put_body-requires
put_body-requires c =
    let same = c.types-types.ensures ∙ ap (λ (x : Lists). x.table) c.arena.ensures in
    let t = c.args.numbering.now.table in
    let good = subst IsGood same c.type_count-count.ensures.good in
    one_of (KnowsOne (length t.types)) (bodies t) good.known_bodies c.args.id _ (subst (λ (u : Types). slice_get (bodies u) c.args.id ≡ Some (option_copied c.struct_body.result)) same c.struct_body.ensures)

pub returns-clause-put : goal.returns-clause-put
returns-clause-put c =
    let a = c.args.numbering.now in
    let t = a.table in
    let w = c.args.out.now.writer in
    let same = c.types-types.ensures ∙ ap (λ (x : Lists). x.table) c.arena.ensures in
    let name = c.struct_name.result.now in
    let body = option_copied c.struct_body.result in
    let named = subst (λ (u : Types). slice_get (names u) c.args.id ≡ Some name) same c.struct_name.ensures in
    let bodied = subst (λ (u : Types). slice_get (bodies u) c.args.id ≡ Some body) same c.struct_body.ensures in
    let text = c.bytes-name.ensures ∙ c.text.ensures.bytes in
    let put = λ (s : List ℕ × TreeBody). PutsLines w (define_in a s ∷ []) c.put.new.self.writer in
    subst (λ (s : List ℕ × TreeBody). OnOk c.put.result (put s))
    (sym (struct_at t c.args.id name body named bodied))
    (put_as _ _ _ _ 7 _ _ c.put.ensures.put refl
    (from_empty _ _ _ c.requires.empty (two _ (body_operands a body) _ _ _ c.in_ok-put_body.ensures (c.in_ok-put_text.ensures ∙ ap (λ (n : List ℕ). c.put_body.new.operands.items ++ (texts a).last.spell n) text))))
