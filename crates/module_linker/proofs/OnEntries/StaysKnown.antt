-- What is known of types and of room stays so where types are added, and types stay copied where entries are.
use Rattle.std.proofs.Common.{◌≡◌, ◌+◌, true, List, length, sym, subst, ap, ◌∙◌}
use Rattle.type_table.specs.Types.{trees, structs, names}
use Rattle.module_arena.specs.Lists.{Lists}
use Rattle.module_arena.specs.WellFormed.{is_good_type}
use Rattle.linkage_rules.specs.Globals.{Global, OfVariable, OfFunction, OfAlias, name_of}
use Rattle.linkage_rules.specs.Ids.{modules}
use Rattle.link_rules.specs.Structs.{new_struct}
use Rattle.item_build.specs.Types.Declarations.{AreFew}
use Rattle.item_build.specs.Types.Stands.{Grows}
use Rattle.item_build.proofs.OnTypes.Declaring.{free_still}
use Rattle.item_build.proofs.OnTypes.Staying.{structs_stay}
use Rattle.entry_copy.specs.Tables.{Tables}
use Rattle.entry_copy.proofs.Starting.{types_still_copied}
use Rattle.entry_copy.proofs.TypesCopied.{types_still}
use Rattle.module_linker.specs.Stages.Ground.{HaveTypes}
use Rattle.module_linker.specs.Entries.Room.{one_more, HasGoodType, HasRoom}

module _ (b c : Lists) (g : Grows b c) where
  pub have_grown : (parts : List Lists) (tables : List Tables) → HaveTypes parts b tables → HaveTypes parts c tables
  have_grown parts tables h = record {
    count = h.count;
    structs = structs_stay b c g ∙ h.structs;
    types = λ i a t at is. let old = h.types i a t at is in record { copies = types_still (new_struct (modules parts) i) a b t old.copies c g; all = old.all };
  }

  few_grown : (x : Global) → AreFew (one_more b x) → AreFew (one_more c x)
  few_grown (OfVariable v) few = subst AreFew same few
    where
      same : one_more b (OfVariable v) ≡ one_more c (OfVariable v)
      same = λ j. record { variables = length (sym g.variables j) + 1; aliases = length (sym g.aliases j); functions = length (sym g.functions j) }
  few_grown (OfFunction f) few = subst AreFew same few
    where
      same : one_more b (OfFunction f) ≡ one_more c (OfFunction f)
      same = λ j. record { variables = length (sym g.variables j); aliases = length (sym g.aliases j); functions = length (sym g.functions j) + 1 }
  few_grown (OfAlias y) few = subst AreFew same few
    where
      same : one_more b (OfAlias y) ≡ one_more c (OfAlias y)
      same = λ j. record { variables = length (sym g.variables j); aliases = length (sym g.aliases j) + 1; functions = length (sym g.functions j) }

  good_grown : (x : Global) → HasGoodType (structs b.table) x → HasGoodType (structs c.table) x
  good_grown (OfVariable v) good = subst (λ ss. is_good_type ss v.ty ≡ true) (sym (structs_stay b c g)) good
  good_grown (OfFunction f) good = tt
  good_grown (OfAlias y) good = tt

  pub room_grown : (x : Global) → HasRoom b x → HasRoom c x
  room_grown x h = record { free = free_still b c g (name_of x) h.free; few = few_grown x h.few; good = good_grown x h.good }

-- the table alone counts
pub have_there : (parts : List Lists) (tables : List Tables) (b c : Lists) → c.table ≡ b.table → HaveTypes parts b tables → HaveTypes parts c tables
have_there parts tables b c e h = record {
  count = h.count;
  structs = ap structs e ∙ h.structs;
  types = λ i a t at is.
      let old = h.types i a t at is in
      record {
        copies = types_still_copied b c (ap trees e) (ap (λ x. length x.types) e) (new_struct (modules parts) i) a t (ap names e) old.copies;
        all = old.all;
      };
}
