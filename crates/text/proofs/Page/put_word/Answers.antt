use mathlib.Core.Path.{refl}
use Rattle.text.specs.laws.Written.{word_written, written-length}
use Rattle.text.proofs.Page.put_word.Goals as goal

pub returns : goal.returns
returns c =
    let w = word_written _ _ _ _ c.requires c.copy_word.ensures in
    record { same = refl; written = w; length-is = written-length w }
