-- A proof of every statement on the claims page, specs/Claims.antt, in its order.
use Rattle.population.proofs.LowestTable as LowestTable
use Rattle.population.proofs.MatchTable as MatchTable
use Rattle.population.proofs.OnePlace as OnePlace
use Rattle.population.proofs.PopulationTable as PopulationTable
use Rattle.population.proofs.SelectTable as SelectTable
use Rattle.population.specs.Claims.{GoodPopulations, TakenSelections, GoodSelections, MatchingTags, LowestTag, CommandAtOnePlace, OthersStay}

pub good_populations : GoodPopulations
good_populations = PopulationTable.good_populations

pub taken_selections : TakenSelections
taken_selections = SelectTable.taken_selections

pub good_selections : GoodSelections
good_selections = SelectTable.good_selections

pub matching_tags : MatchingTags
matching_tags = MatchTable.matching_tags

pub lowest_tag : LowestTag
lowest_tag = LowestTable.lowest_tag

pub command_at_one_place : CommandAtOnePlace
command_at_one_place = OnePlace.command_at_one_place

pub others_stay : OthersStay
others_stay = OnePlace.others_stay
