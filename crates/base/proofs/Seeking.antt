-- Steps of a loop that looks whether one of a list passes a test.
use Rattle.std.proofs.Common.{◌≡◌, ℕ, ◌+◌, ◌<◌, ◌≤◌, Bool, true, false, ◌||◌, List, length, get_or, drop, sym, ap, ◌∙◌}
use Rattle.std.proofs.lemmas.List.{at_drop_more, at_drop_all}
use Rattle.std.specs.List.{list_any}

module _ {X : Type 0} (test : X → Bool) (xs : List X) (i : ℕ) where
  -- the one in hand passes
  pub some_met : (d : X) → i < length xs → test (get_or xs i d) ≡ true → list_any test (drop i xs) ≡ list_any test xs → true ≡ list_any test xs
  some_met d within here same =
      sym (at_drop_more (list_any test) xs i d within ∙ ap (λ b. b || list_any test (drop (i + 1) xs)) here) ∙ same

  -- it does not, so the rest decides
  pub some_later : (d : X) → i < length xs → test (get_or xs i d) ≡ false → list_any test (drop i xs) ≡ list_any test xs → list_any test (drop (i + 1) xs) ≡ list_any test xs
  some_later d within here same =
      sym (at_drop_more (list_any test) xs i d within ∙ ap (λ b. b || list_any test (drop (i + 1) xs)) here) ∙ same

  -- all have been looked at
  pub some_none : length xs ≤ i → list_any test (drop i xs) ≡ list_any test xs → false ≡ list_any test xs
  some_none all same = sym (at_drop_all (list_any test) xs i all) ∙ same
