-- A proof of every statement on the claims page, specs/Claims.antt, in its order.
use Rattle.failures.proofs.Bounding as Bounding
use Rattle.failures.proofs.Histories as Histories
use Rattle.failures.proofs.Listings as Listings
use Rattle.failures.proofs.Numbers as Numbers
use Rattle.failures.proofs.Secrets as Secrets
use Rattle.failures.specs.Claims.{AnswerNumbers, AcknowledgeNumbers, NothingChanges, Acknowledged, WithRoom, EachFailureListed, ListIsHistory, Balance, Bound, Demand3}

pub answer_numbers : AnswerNumbers
answer_numbers = Numbers.answer_numbers

pub acknowledge_numbers : AcknowledgeNumbers
acknowledge_numbers = Numbers.acknowledge_numbers

pub nothing_changes : NothingChanges
nothing_changes = Numbers.nothing_changes

pub acknowledged : Acknowledged
acknowledged = Numbers.acknowledged_is

pub with_room : WithRoom
with_room = Numbers.with_room

pub each_failure_listed : EachFailureListed
each_failure_listed = Listings.each_failure_listed

pub list_is_history : ListIsHistory
list_is_history = Histories.list_is_history

pub balance : Balance
balance = Histories.balance

pub bound : Bound
bound = Bounding.bound

pub demand3 : Demand3
demand3 = Secrets.demand3
