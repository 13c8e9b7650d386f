use Rattle.counting.proofs.Settle.{rule_settles, one_result, left_upheld}
use Rattle.counting.proofs.Drain.{drains}
use Rattle.counting.proofs.counting_heap.CountingHeap.new.Goals as goal

pub returns-clause-settles : goal.returns-clause-settles
returns-clause-settles c = rule_settles

pub returns-clause-one : goal.returns-clause-one
returns-clause-one c = one_result

pub returns-clause-upheld : goal.returns-clause-upheld
returns-clause-upheld c = λ m n s. left_upheld s.frees s.none_dead

pub returns-clause-drains : goal.returns-clause-drains
returns-clause-drains c = drains
