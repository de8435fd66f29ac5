use Rattle.std.proofs.Common.{◌≤◌, get_or, length, None, refl, arith}
use Rattle.std.proofs.lemmas.Bool.Decides.{Decides-like, Decides-at}
use Rattle.drawn_floor.proofs.Finding.{found_none, none_found, missing_decides}
use Rattle.drawn_floor.proofs.joined_tiles.JoinedTiles.is_split.Goals as goal

pub returns : goal.returns
returns c =
    let steps = c.run.new.self.steps in
    let room : c.from.result ≤ length steps = omega (arith, c.run.ensures.long, c.from.ensures, c.args.self.now.fits) in
    Decides-at c.contains.result _ c.contains.ensures.value (Decides-like _
    (λ h. (h.0, omega (arith, c.from.ensures, h.1), found_none (get_or steps h.0 None) (c.run.ensures.found h.0) h.2))
    (λ h. (h.0, omega (arith, c.from.ensures, h.1), none_found (get_or steps h.0 None) (c.run.ensures.found h.0) h.2))
    (missing_decides _ refl (λ d. refl) c.from.result steps room))
