-- The answer up to a time that no response is above is the answer.
use Rattle.drt_sp_states.proofs.Responses.{farther_ok}
use Rattle.drt_sp_states.proofs.response.search_response.Goals as goal

pub returns : goal.returns
returns g c = farther_ok _ _ _ _ _ _ c.latest_response.ensures.most c.search_near.ensures
