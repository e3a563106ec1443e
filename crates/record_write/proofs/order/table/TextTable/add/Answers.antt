use Rattle.std.proofs.Common.{◌≡◌, ℕ, ◌==◌, true, false, List, [], ◌∷◌, length, Option, None, Some, refl, sym, ap, ◌∙◌, subst, arith, true≢false}
use Rattle.std.proofs.Common.{bytes_eq, cond, rules}
use Rattle.std.specs.Option.{is_some}
use Rattle.std.specs.Cmp.{unsigned_Decides}
use Rattle.type_table.specs.Names.Entries.{value_of}
use Rattle.record_write.specs.Order.Table.{PlacedTexts, Gains}
use Rattle.record_write.proofs.OnOrder.Texts.{gains_nothing, gains_known, gains_new}
use Rattle.record_write.proofs.order.table.TextTable.add.Goals as goal

empty : (text : List ℕ) → (length text == 0) ≡ true → text ≡ []
empty [] e = refl
empty (b ∷ bs) e = let zero : length (b ∷ bs) ≡ 0 = (unsigned_Decides (length (b ∷ bs)) 0).0 e in absurd (omega arith)

full : (text : List ℕ) → (length text == 0) ≡ false → text ≡ [] → ⊥
full [] e is = true≢false e
full (b ∷ bs) e is = cc

nothing : (o : Option ℕ) → is_some o ≡ false → o ≡ None
nothing None e = refl
nothing (Some x) e = absurd (true≢false e)

something : (o : Option ℕ) → is_some o ≡ true → (x : ℕ) × (o ≡ Some x)
something None e = absurd (true≢false (sym e))
something (Some x) e = (x, refl)

pub returns-then-is_empty : goal.returns-then-is_empty
returns-then-is_empty c = gains_nothing c.args.self.now c.args.text.now (empty c.args.text.now (sym c.is_empty.ensures ∙ c.if-is_empty.true))

pub returns-then-is_some : goal.returns-then-is_some
returns-then-is_some c =
    let known = something c.get.result (sym c.is_some.ensures ∙ c.if-is_some.true) in
    subst (λ (t : PlacedTexts). Gains t t (c.args.text.now ∷ [])) c.self.view_is
    (gains_known (record { offsets = c.self.inside.offsets; bytes = c.self.inside.bytes.items }) c.args.text.now known.0 (sym c.get.ensures ∙ known.1))

pub returns : goal.returns
returns c =
    let many : c.len.result ≡ length c.self.inside.bytes.items = search rules in
    let old : PlacedTexts = record { offsets = c.self.inside.offsets; bytes = c.self.inside.bytes.items } in
    let new : PlacedTexts = record { offsets = c.put.new.self; bytes = c.put_bytes.new.bytes.items } in
    let offsets : (other : List ℕ) → value_of c.put.new.self other ≡ cond (bytes_eq other c.args.text.now) (Some (length c.self.inside.bytes.items)) (value_of c.self.inside.offsets other) =
    λ other. c.in_ok-put.ensures.put other ∙ ap (λ n. cond (bytes_eq other c.args.text.now) (Some n) (value_of c.self.inside.offsets other)) many in
    subst (λ (t : PlacedTexts). Gains t new (c.args.text.now ∷ [])) c.self.view_is
    (gains_new old new c.args.text.now (sym c.get.ensures ∙ nothing c.get.result (sym c.is_some.ensures ∙ c.if-is_some.false)) offsets c.in_ok-put_bytes.ensures (full c.args.text.now (sym c.is_empty.ensures ∙ c.if-is_empty.false)))
