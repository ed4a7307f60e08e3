-- The lines of good items, one after another, are the text of the site so far.
use Rattle.std.proofs.Common.{◌≡◌, ℕ, zero, suc, ◌^◌, ◌≤◌, ◌<◌, ◌⊎◌, inl, inr, ℤ, pos, List, [], ◌∷◌, ◌++◌, length, get_or, Bool, true, false, ◌==◌, refl, sym, ap, ◌∙◌, subst, append_assoc, arith, All, Option, Some, IsTrue, codes}
use Rattle.std.specs.Prelude.{nat_le}
use Rattle.std.proofs.lemmas.Int.{ints}
use Rattle.std.specs.Fmt.{decimal, digits}
use Rattle.std.proofs.lemmas.Bool.{eqb-true, leb-true, and_parts}
use Rattle.std.proofs.lemmas.List.{append-nil, length-append, get_or_at}
use Rattle.cable_definitions.specs.declared.place.Place.{Place}
use Rattle.cable_definitions.specs.declared.site.Version.{Version}
use Rattle.cable_definitions.specs.declared.site.Version.TheVariants.{One, Two}
use Rattle.cable_definitions.specs.declared.site.Mode.{Mode}
use Rattle.cable_definitions.specs.declared.site.Point.{Point}
use Rattle.cable_definitions.specs.declared.site.CableType.{CableType}
use Rattle.cable_definitions.specs.declared.site.Pair.{Pair}
use Rattle.cable_definitions.specs.declared.site.SiteCode.TheVariants.{Form, Range}
use Rattle.cable_definitions.specs.Numeral.{spelling}
use Rattle.cable_definitions.specs.Site.{Site, version_number}
use Rattle.cable_definitions.specs.Text.{line, number, site_line, mode_line, type_line, point_line, corner_line, pair_line}
use Rattle.cable_definitions.specs.Items.{Draft, RawItem, AnObstacle, with_corner, within, may_stand, is_settled, IsGood}
use Rattle.site_model.specs.Drafts.{IsDraft}
use Rattle.site_text.proofs.Numbers.{small_count, number_spelled, IsSmall}
use Rattle.site_text.proofs.DraftText.{body, text_at, text_so_far, text_behind, type_grows, point_grows, obstacle_grows, corner_grows, corner_closes, pair_grows}

-- what IsDraft leaves open: no points before some type, and corners only in an open obstacle
pub record Tidy (d : Draft) : Type 0 where
  pub no_points : d.stage ≤ 2 → d.site.points ≡ []
  pub closed : d.missing ≡ 0 → d.corners ≡ []
  pub opened : (d.missing ≡ 0) ⊎ (d.stage ≡ 4)

-- a line goes on with the text so far
pub record Step (d f : Draft) (x : List ℕ) : Type 0 where
  pub text : text_so_far f ≡ text_so_far d ++ x
  pub tidy : Tidy f

-- a test that is not denied passes
passes : (b : Bool) → ((IsTrue b → ⊥) → ⊥) → b ≡ true
passes true h = refl
passes false h = absurd (h (λ t. let u : false ≡ true = t in cc))

-- a good item may stand
pub stands : (d : Draft) (item : RawItem) → IsGood d item → may_stand d item ≡ true
stands d item good = passes (may_stand d item) (good Form)

-- a text that grows behind the mode
grows : (d f : Draft) (x : List ℕ) → 2 ≤ d.stage → 2 ≤ f.stage → f.site.version ≡ d.site.version → f.site.mode ≡ d.site.mode → body f.site f.corners f.missing ≡ body d.site d.corners d.missing ++ x → text_so_far f ≡ text_so_far d ++ x
grows d f x h k v m e =
    text_behind f.stage f k
    ∙ ap (λ w. site_line w ++ (mode_line f.site.mode ++ body f.site f.corners f.missing)) v
    ∙ ap (λ w. site_line d.site.version ++ (mode_line w ++ body f.site f.corners f.missing)) m
    ∙ ap (λ l. site_line d.site.version ++ (mode_line d.site.mode ++ l)) e
    ∙ ap (λ l. site_line d.site.version ++ l) (sym (append_assoc (mode_line d.site.mode) (body d.site d.corners d.missing) x))
    ∙ sym (append_assoc (site_line d.site.version) (mode_line d.site.mode ++ body d.site d.corners d.missing) x)
    ∙ ap (λ l. l ++ x) (sym (text_behind d.stage d h))

-- a word that spells a count
pub spelled_count : (w : List ℕ) (n : ℕ) → n < 2 ^ 64 → w ≡ spelling (pos n) → w ≡ decimal n
spelled_count w n h e = e ∙ sym (number_spelled (pos n) (small_count n h))

-- a word that spells a coordinate
pub spelled_coordinate : (w : List ℕ) (z : ℤ) → IsSmall z → w ≡ spelling z → w ≡ number z
spelled_coordinate w z h e = e ∙ sym (number_spelled z h)

-- what a version's number spells
pub version_text : (version : Version) → decimal (version_number version) ≡ spelling (pos (version_number version)) → (w : List ℕ) → w ≡ spelling (pos (version_number version)) → line (codes "site" ∷ w ∷ []) ≡ site_line version
unfolding digits
version_text One e w f = let g : w ≡ codes "1" = f ∙ sym e in ap (λ l. line (codes "site" ∷ l ∷ [])) g
version_text Two e w f = let g : w ≡ codes "2" = f ∙ sym e in ap (λ l. line (codes "site" ∷ l ∷ [])) g

-- nothing was read yet
pub tidy_begin : (d : Draft) → d.stage ≤ 1 → d.site.points ≡ [] → d.missing ≡ 0 → d.corners ≡ [] → Tidy d
tidy_begin d h p m c = record { no_points = λ k. p; closed = λ k. c; opened = inl m }

-- no obstacle is open
pub settled : (d : Draft) → is_settled d ≡ true → d.missing ≡ 0
settled d h = eqb-true d.missing 0 (and_parts (nat_le 1 (length d.site.types)) (d.missing == 0) h).1

-- the body with no open obstacle
pub body_closed : (s : Site) (corners : List Place) (missing : ℕ) → corners ≡ [] → missing ≡ 0 → body s corners missing ≡ body s [] 0
body_closed s corners missing c m = ap (λ k. body s k missing) c ∙ ap (body s []) m

-- the last of a list
pub last_of : {X : Type 0} (P : X → Type 0) (xs : List X) (x : X) → All P (xs ++ x ∷ []) → P x
last_of P xs x h =
    let e : get_or (xs ++ x ∷ []) (length xs) x ≡ x = get_or_at xs x [] x (length xs) refl in
    subst P e (h (length xs) x (omega (arith, length-append xs (x ∷ []))))

-- a further type
pub type_step : (d : Draft) (t : CableType) (x : List ℕ) → IsDraft d → Tidy d → d.stage ≡ 2 → x ≡ type_line d.site.version t → Step d (record d { site = record d.site { types = d.site.types ++ t ∷ [] } }) x
type_step d t x draft tidy two e =
    let none : d.missing ≡ 0 = elim tidy.opened [ inl a ↦ a | inr b ↦ absurd (omega arith) ] in
    let f : Draft = record d { site = record d.site { types = d.site.types ++ t ∷ [] } } in
    let points = tidy.no_points (omega arith) in
    let corners = tidy.closed none in
    record {
      text = grows d f x (omega arith) (omega arith) refl refl
          (body_closed f.site d.corners d.missing corners none
          ∙ type_grows d.site t points (draft.order.no_obstacles (omega arith)) (draft.order.no_pairs (omega arith))
          ∙ ap (λ l. l ++ type_line d.site.version t) (sym (body_closed d.site d.corners d.missing corners none))
          ∙ ap (λ l. body d.site d.corners d.missing ++ l) (sym e));
      tidy = record { no_points = tidy.no_points; closed = tidy.closed; opened = tidy.opened };
    }

-- a further point
pub point_step : (d : Draft) (p : Point) (x : List ℕ) → IsDraft d → Tidy d → 2 ≤ d.stage → d.stage ≤ 3 → d.missing ≡ 0 → x ≡ point_line p → Step d (record d { stage = 3; site = record d.site { points = d.site.points ++ p ∷ [] } }) x
point_step d p x draft tidy low high none e =
    let f : Draft = record d { stage = 3; site = record d.site { points = d.site.points ++ p ∷ [] } } in
    let corners = tidy.closed none in
    record {
      text = grows d f x low (omega arith) refl refl
          (body_closed f.site d.corners d.missing corners none
          ∙ point_grows d.site p (draft.order.no_obstacles high) (draft.order.no_pairs (omega arith))
          ∙ ap (λ l. l ++ point_line p) (sym (body_closed d.site d.corners d.missing corners none))
          ∙ ap (λ l. body d.site d.corners d.missing ++ l) (sym e));
      tidy = record { no_points = λ h. absurd (omega arith); closed = tidy.closed; opened = inl none };
    }

-- a further obstacle begins
pub obstacle_step : (d : Draft) (n : ℕ) (x : List ℕ) → IsDraft d → Tidy d → 2 ≤ d.stage → d.stage ≤ 4 → d.missing ≡ 0 → 1 ≤ n → x ≡ line (codes "obstacle" ∷ decimal n ∷ []) → Step d (record d { stage = 4; corners = []; missing = n }) x
obstacle_step d zero x draft tidy low high none some e = absurd (omega arith)
obstacle_step d (suc n) x draft tidy low high none some e =
    let f : Draft = record d { stage = 4; corners = []; missing = suc n } in
    let corners = tidy.closed none in
    record {
      text = grows d f x low (omega arith) refl refl
          (obstacle_grows d.site n (draft.order.no_pairs high)
          ∙ ap (λ l. l ++ line (codes "obstacle" ∷ decimal (suc n) ∷ [])) (sym (body_closed d.site d.corners d.missing corners none))
          ∙ ap (λ l. body d.site d.corners d.missing ++ l) (sym e));
      tidy = record { no_points = λ h. absurd (omega arith); closed = λ h. refl; opened = inr refl };
    }

-- a further corner
pub corner_step : (d : Draft) (c : Place) (missing : ℕ) (x : List ℕ) → d.missing ≡ missing → IsDraft d → Tidy d → d.stage ≡ 4 → 1 ≤ missing → x ≡ corner_line c → Step d (with_corner d c missing) x
corner_step d c zero x m draft tidy four some e = absurd (omega arith)
corner_step d c (suc zero) x m draft tidy four some e =
    let f : Draft = with_corner d c 1 in
    record {
      text = grows d f x (omega arith) (omega arith) refl refl
          (corner_closes d.site d.corners c (draft.order.no_pairs (omega arith))
          ∙ ap (λ k. body d.site d.corners k ++ corner_line c) (sym m)
          ∙ ap (λ l. body d.site d.corners d.missing ++ l) (sym e));
      tidy = record { no_points = λ h. absurd (omega arith); closed = λ h. refl; opened = inl refl };
    }
corner_step d c (suc (suc n)) x m draft tidy four some e =
    let f : Draft = with_corner d c (suc (suc n)) in
    record {
      text = grows d f x (omega arith) (omega arith) refl refl
          (corner_grows d.site d.corners c n (draft.order.no_pairs (omega arith))
          ∙ ap (λ k. body d.site d.corners k ++ corner_line c) (sym m)
          ∙ ap (λ l. body d.site d.corners d.missing ++ l) (sym e));
      tidy = record { no_points = λ h. absurd (omega arith); closed = λ h. absurd (omega arith); opened = inr four };
    }

-- a further pair rule
pub pair_step : (d : Draft) (p : Pair) (x : List ℕ) → IsDraft d → Tidy d → 2 ≤ d.stage → d.missing ≡ 0 → x ≡ pair_line d.site p → Step d (record d { stage = 5; site = record d.site { pairs = d.site.pairs ++ p ∷ [] } }) x
pair_step d p x draft tidy low none e =
    let f : Draft = record d { stage = 5; site = record d.site { pairs = d.site.pairs ++ p ∷ [] } } in
    let corners = tidy.closed none in
    record {
      text = grows d f x low (omega arith) refl refl
          (body_closed f.site d.corners d.missing corners none
          ∙ pair_grows d.site p
          ∙ ap (λ l. l ++ pair_line d.site p) (sym (body_closed d.site d.corners d.missing corners none))
          ∙ ap (λ l. body d.site d.corners d.missing ++ l) (sym e));
      tidy = record { no_points = λ h. absurd (omega arith); closed = tidy.closed; opened = inl none };
    }

-- where some type stands, the types have begun
pub some_stage : (d : Draft) → IsDraft d → is_settled d ≡ true → 2 ≤ d.stage
some_stage d draft h = by_stage d.stage refl (leb-true 1 (length d.site.types) (and_parts (nat_le 1 (length d.site.types)) (d.missing == 0) h).0)
  where
    by_stage : (n : ℕ) → d.stage ≡ n → 1 ≤ length d.site.types → 2 ≤ d.stage
    by_stage zero e some = let k = draft.order.no_types (omega arith) in absurd (omega (arith, ap length k, some))
    by_stage (suc zero) e some = let k = draft.order.no_types (omega arith) in absurd (omega (arith, ap length k, some))
    by_stage (suc (suc n)) e some = omega arith

-- the number of a version is spelled so
pub version_word : (version : Version) → decimal (version_number version) ≡ spelling (pos (version_number version))
version_word One = number_spelled (pos 1) (small_count 1 (omega arith))
version_word Two = number_spelled (pos 2) (small_count 2 (omega arith))

-- a good obstacle has some corner
pub some_corner : (d : Draft) (k : Option ℤ) (n : ℕ) → IsGood d (AnObstacle k) → k ≡ Some (pos n) → 1 ≤ n
some_corner d k zero good e = absurd (good Range (λ h. let b = h 0 (within k (pos 3) (pos 1024)) (omega arith) (pos 0) e in omega (arith, ints, b.0)))
some_corner d k (suc n) good e = omega arith

-- the version
pub version_step : (d : Draft) (version : Version) (x : List ℕ) → Tidy d → d.stage ≡ 0 → x ≡ site_line version → Step d (record d { stage = 1; site = record d.site { version = version } }) x
version_step d version x tidy zero_is e =
    let none : d.missing ≡ 0 = elim tidy.opened [ inl a ↦ a | inr b ↦ absurd (omega arith) ] in
    record {
      text = sym e ∙ ap (λ k. text_at k d ++ x) (sym zero_is);
      tidy = record { no_points = λ h. tidy.no_points (omega arith); closed = tidy.closed; opened = inl none };
    }

-- the mode
pub mode_step : (d : Draft) (mode : Mode) (x : List ℕ) → IsDraft d → Tidy d → d.stage ≡ 1 → x ≡ mode_line mode → Step d (record d { stage = 2; site = record d.site { mode = mode } }) x
mode_step d mode x draft tidy one e =
    let none : d.missing ≡ 0 = elim tidy.opened [ inl a ↦ a | inr b ↦ absurd (omega arith) ] in
    let corners = tidy.closed none in
    let f : Site = record d.site { mode = mode } in
    let nothing : body f d.corners d.missing ≡ [] = body_closed f d.corners d.missing corners none ∙ body_nothing f (draft.order.no_types (omega arith)) (tidy.no_points (omega arith)) (draft.order.no_obstacles (omega arith)) (draft.order.no_pairs (omega arith)) in
    record {
      text =
          ap (λ l. site_line d.site.version ++ (mode_line mode ++ l)) nothing ∙ ap (λ l. site_line d.site.version ++ l) (append-nil (mode_line mode))
          ∙ ap (λ l. site_line d.site.version ++ l) (sym e) ∙ ap (λ k. text_at k d ++ x) (sym one);
      tidy = record { no_points = λ h. tidy.no_points (omega arith); closed = tidy.closed; opened = inl none };
    }
  where
    body_nothing : (s : Site) → s.types ≡ [] → s.points ≡ [] → s.obstacles ≡ [] → s.pairs ≡ [] → body s [] 0 ≡ []
    body_nothing s t p o r = rw (t, p, o, r) refl

-- a corner leaves the stage as it is
pub corner_stage : (d : Draft) (c : Place) (missing : ℕ) → (with_corner d c missing).stage ≡ d.stage
corner_stage d c zero = refl
corner_stage d c (suc zero) = refl
corner_stage d c (suc (suc n)) = refl
