-- The responses of vertices, one after another.
use Rattle.std.proofs.Common.{◌≡◌, ℕ, suc, ◌+◌, List, [], ◌∷◌, ◌++◌, length, refl, sym, ap, ◌∙◌, subst, arith}
use Rattle.std.proofs.lemmas.List.{append-nil, append_assoc, map_push}
use Rattle.std.proofs.lemmas.List.Elements.{All-nil, All-push}
use Rattle.std.proofs.lemmas.List.FromFn.{map-range_with_len_more}
use Rattle.drt_model.specs.Contents.{Contents}
use Rattle.drt_model.specs.declared.jobs.Policy.TheVariants.{Fixed}
use Rattle.drt_model.specs.Digraph.{vertex_count}
use Rattle.drt_model.specs.Schedulable.{Schedulable}
use Rattle.drt_busy.specs.Choice.{graph_at}
use Rattle.drt_sp.specs.Vertices.{subjects}
use Rattle.drt_response.specs.Answers.{AreResponses, AreResponsesTo, IsResponseOf, respondent, vertices_of}
use Rattle.drt_responses.specs.declared.response.Response.{Response}

module _ (set : Contents) where
  pub no_responses : AreResponsesTo set 0 0 []
  no_responses = record { are = refl; each = All-nil (IsResponseOf set) }

  -- one more vertex
  pub responses_more : (k v : ℕ) (responses : List Response) (r : Response) → AreResponsesTo set k v responses → r.task ≡ k → r.vertex ≡ v → IsResponseOf set r
      → AreResponsesTo set k (v + 1) (responses ++ r ∷ [])
  responses_more k v responses r are task_is vertex_is is =
      let next : subjects k (v + 1) ≡ subjects k v ++ (k, v) ∷ [] = map-range_with_len_more (λ u. (k, u)) 0 v v (omega arith) in
      let here : respondent r ≡ (k, v) = rw (task_is, vertex_is) refl in
      record {
        are = map_push respondent responses r ∙ (ap (λ xs. xs ++ respondent r ∷ []) are.are
            ∙ (append_assoc (vertices_of set.tasks k) (subjects k v) (respondent r ∷ [])
            ∙ (ap (λ x. vertices_of set.tasks k ++ (subjects k v ++ x ∷ [])) here ∙ ap (λ xs. vertices_of set.tasks k ++ xs) (sym next))));
        each = All-push (IsResponseOf set) responses r are.each is;
      }

  -- all vertices of a task
  pub responses_next : (k n : ℕ) (responses : List Response) → AreResponsesTo set k n responses → n ≡ vertex_count (graph_at set.tasks k) → AreResponsesTo set (k + 1) 0 responses
  responses_next k n responses are e =
      let one : suc k ≡ k + 1 = omega arith in
      let all = subjects k (vertex_count (graph_at set.tasks k)) in
      subst (λ (j : ℕ). AreResponsesTo set j 0 responses) one (record {
        are = are.are ∙ (ap (λ v. vertices_of set.tasks k ++ subjects k v) e ∙ sym (append-nil (vertices_of set.tasks k ++ all)));
        each = are.each;
      })

  -- all vertices of all tasks
  pub all_responses : (k : ℕ) (responses : List Response) → Schedulable set.tasks Fixed → AreResponsesTo set k 0 responses → k ≡ length set.tasks → AreResponses set responses
  all_responses k responses schedulable are e = record {
    schedulable = schedulable;
    are = are.are ∙ (append-nil (vertices_of set.tasks k) ∙ ap (λ n. vertices_of set.tasks n) e);
    each = are.each;
  }
