-- `search::words::tag_word` meets its contract: the parts of the word do not meet, so each is read as it was put.
use native.Mathlib.Omega.{arith}
use Rattle.search.proofs.TagWordLaws.{one-fits, second_fits, word_none, word-several, word-one}
use Rattle.search.proofs.words.tag_word.Goals as goal

pub overflow_add-m : goal.overflow_add-m
overflow_add-m c = let h = one-fits c.in-One.is c.requires in omega arith

pub overflow_mul-b : goal.overflow_mul-b
overflow_mul-b c = let h = one-fits c.in-One.is c.requires in omega arith

pub overflow_add-m-in-One : goal.overflow_add-m-in-One
overflow_add-m-in-One c = let h = one-fits c.in-One.is c.requires in omega arith

pub overflow_add-m-in-One-2 : goal.overflow_add-m-in-One-2
overflow_add-m-in-One-2 c =
    let h = one-fits c.in-One.is c.requires in
    let s = second_fits _ c.in-One.is c.second.ensures in
    omega arith

pub word-requires : goal.word-requires
word-requires c =
    let h = one-fits c.in-One.is c.requires in
    let s = second_fits _ c.in-One.is c.second.ensures in
    omega arith

pub returns-in-None : goal.returns-in-None
returns-in-None c = word_none c.in-None.is

pub returns-in-One : goal.returns-in-One
returns-in-One c = word-one _ _ _ c.in-One.is c.requires c.second.ensures c.word.ensures

pub returns-in-Several : goal.returns-in-Several
returns-in-Several c = word-several c.in-Several.is c.word-in-Several.ensures
