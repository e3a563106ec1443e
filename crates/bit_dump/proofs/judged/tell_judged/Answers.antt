use Rattle.bit_dump.proofs.judged.tell_judged.Goals as goal

pub tell_all-requires : goal.tell_all-requires
tell_all-requires g c = c.new-walker.ensures.unspent

pub returns-clause-told : goal.returns-clause-told
returns-clause-told g c =
    let of = c.requires.judged in
    c.tell_all.ensures.told c.args.bytes.now c.args.whole (record {
      tree = of.tree;
      stream = of.stream;
      left_is = c.new-walker.ensures.whole of.tree of.stream;
      told_is = c.new-outline.ensures;
    })
