use Rattle.list.proofs.whole.refused_list.Goals as goal

pub returns : goal.returns
returns c = simp c.zero.ensures
