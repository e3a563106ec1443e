-- A body of which nothing was read, and what indices stand for while it is read.
use Rattle.std.proofs.Common.{◌≡◌, ◌+◌, ℕ, cond, [], ◌∷◌, ◌++◌, length, map, flat_map, get_or, take, All, refl, sym, ap, subst, ◌∙◌, arith}
use Rattle.std.specs.Prelude.{bytes_eq}
use Rattle.std.specs.List.{list_any}
use Rattle.type_table.specs.Types.{trees}
use Rattle.module_arena.specs.Known.{KnowsBlock, upto}
use Rattle.module_arena.specs.Lists.{Lists}
use Rattle.module_arena.specs.Mentions.{block_results, result_of}
use Rattle.module_arena.specs.View.{block_view, constants_of, inst_view, local_view}
use Rattle.record_table.specs.Bodies.{at_first}
use Rattle.record_table.specs.Fields.{Numbering}
use Rattle.type_read.specs.declared.arena.counts.GlobalCounts.{GlobalCounts}
use Rattle.type_read.specs.declared.arena.counts.LocalCounts.{LocalCounts}
use Rattle.type_read.specs.declared.arena.module_reader.ModuleReader.{ModuleReader}
use Rattle.type_read.specs.Arena.Growing.{Grows}
use Rattle.type_read.specs.Arena.Kept.{Goes}
use Rattle.type_read.specs.Arena.Numbered.{Numbers, IsDeclared, IsGlobal, global_count, global_of}
use Rattle.type_read.proofs.OnArena.Steps.{still_declared, still_numbers}
use Rattle.body_read.specs.Lines.Kept.{HasInst}
use Rattle.body_read.specs.Names.Called.{beyond_table}
use Rattle.body_read.specs.declared.blocks.begun.Begun.{Begun}
use Rattle.body_read.specs.Blocks.Begun.{Follows, Has, Means, StartsEmpty, block_called, due_view}

-- ---- what indices stand for

-- it does not depend on constants, nor on what was taken
mid_goes : (a b : ModuleReader) → Grows a.growing b.growing → Goes a (record a { growing = b.growing })
mid_goes a b grows = record { grows = grows; rest = refl; lasts = λ broken. broken }

pub numbers_on : (a b : ModuleReader) (k : Numbering) → Grows a.growing b.growing → b.globals ≡ a.globals → b.locals ≡ a.locals → Numbers a k → Numbers b k
numbers_on a b k grows globals locals h =
    let n = still_numbers a (record a { growing = b.growing }) k (mid_goes a b grows) h in
    record {
      types = n.types;
      structs_are = n.structs_are;
      targets = n.targets ∙ ap (λ (c : GlobalCounts). take (c.variables + c.functions) k.globals) (sym globals);
      globals = n.globals ∙ ap global_count (sym globals);
      values = n.values ∙ ap (λ (l : LocalCounts). l.values) (sym locals);
      blocks = n.blocks ∙ ap (λ (l : LocalCounts). l.blocks) (sym locals);
    }

pub declared_on : (a b : ModuleReader) (k : Numbering) → Grows a.growing b.growing → b.globals ≡ a.globals → IsDeclared a k → IsDeclared b k
declared_on a b k grows globals h =
    λ index lt.
    subst (λ (c : GlobalCounts). IsGlobal b.growing.arena (global_of c index) (get_or k.globals index [])) (sym globals) (still_declared a (record a { growing = b.growing }) k (mid_goes a b grows) h index lt)

-- ---- nothing was read

none_upto : (first : ℕ) → upto first 0 ≡ []
unfolding upto
none_upto first = refl

pub empty_follows : (count at : ℕ) (b : Begun) → StartsEmpty b → Follows count b (at_first at)
empty_follows count at b e = record {
  due_is = ap due_view e.due_is;
  names = record {
    own_is = e.own;
    there = λ text. λ j. list_any (bytes_eq text) (cond (e.strange j) (beyond_table ∷ e.taken j) (e.taken j));
    bytes = ap (list_any (bytes_eq beyond_table)) e.taken;
  };
  ordinary = e.strange;
  name = λ is. absurd (cc);
  blocks = ap (map block_called) e.blocks;
  results = ap (map local_view) e.results;
  counted = λ not. absurd (not refl);
  next = λ not. absurd (not refl);
  closed = sym e.instructions;
  first = λ is. (e.results, refl);
}

pub empty_has : (l : LocalCounts) (a : Lists) (count : ℕ) (b : Begun) → StartsEmpty b → Has l a count b
empty_has l a count b e = record {
  blocks = subst (All (KnowsBlock (length a.table.types) (length a.constants) l.values l.blocks)) (sym e.blocks) (λ i d lt. absurd (omega arith));
  instructions = subst (All (HasInst l a)) (sym e.instructions) (λ i d lt. absurd (omega arith));
  in_order = (λ j. flat_map block_results (e.blocks j) ++ flat_map result_of (e.instructions j)) ∙ (sym (none_upto count) ∙ ap (upto count) (sym (ap length e.results)));
}

pub empty_means : (k : Numbering) (a : Lists) (at : ℕ) (b : Begun) → StartsEmpty b → Means a k b (at_first at)
empty_means k a at b e = record {
  blocks = ap (map (block_view (trees a.table) (constants_of a) k.values k.blocks)) e.blocks;
  instructions = ap (map (inst_view (trees a.table) (constants_of a) k.values k.blocks)) e.instructions;
}
