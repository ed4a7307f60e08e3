-- What the words of a line say, by its first word.
use Rattle.std.proofs.Common.{◌≡◌, ◌≢◌, ℕ, inl, inr, ℤ, pos, List, [], ◌∷◌, sum, true, false, ◌==◌, refl, sym, ap, ◌∙◌, subst, Option, Some, codes, Bor}
use Rattle.std.specs.Prelude.{if◌then◌else◌}
use Rattle.cable_definitions.specs.declared.site.Version.{Version}
use Rattle.cable_definitions.specs.declared.site.Version.TheVariants.{One, Two}
use Rattle.cable_definitions.specs.declared.site.Mode.{Mode}
use Rattle.cable_definitions.specs.Items.{ATurbine, ASubstation, ABend, ACharge, AClosing, RawItem, AVersion, AMode, AType, APoint, AnObstacle, ACorner, APair, TheEnd, Misshapen, Stray as AStray, Unended, Missing, Overlong, NamesMode, HasWords}
use Rattle.site_text.specs.declared.keyword.Keyword.{Keyword}
use Rattle.site_text.specs.declared.keyword.Keyword.TheVariants.{Site, Mode as ModeKey, CableType as TypeKey, Substation as SubstationKey, Turbine as TurbineKey, Bend as BendKey, Obstacle as ObstacleKey, Corner as CornerKey, Charge as ChargeKey, Closed as ClosedKey, End as EndKey}
use Rattle.site_text.specs.declared.item.ItemKind.TheVariants.{Turbine, Substation, Bend}
use Rattle.site_text.specs.declared.item.ItemRule.TheVariants.{Charge, Closing}
use Rattle.site_text.specs.declared.item.Item.{Item}
use Rattle.site_text.specs.declared.item.Item.TheVariants.{Version as VersionItem, Mode as ModeItem, CableType, Point, Obstacle, Corner, Pair, End, Stray}
use Rattle.site_text.specs.Keyword.{keyword_text}
use Rattle.site_text.specs.Words.{are_fields}
use Rattle.site_text.specs.Item.{held_number, ReadsAs, HaveNoEmpty, IsSaid}

-- the keyword whose bytes have this sum
abbrev keyword_from : ℕ → Keyword
keyword_from n =
    if n == 437 then Site else (if n == 421 then ModeKey else (if n == 450 then TypeKey else (if n == 1100 then SubstationKey else (if n == 761 then TurbineKey else (if n == 409 then BendKey
    else (if n == 845 then ObstacleKey else (if n == 649 then CornerKey else (if n == 618 then ChargeKey else (if n == 634 then ClosedKey else EndKey)))))))))

-- the bytes of a keyword tell it
keyword_again : (k : Keyword) → keyword_from (sum (keyword_text k)) ≡ k
keyword_again Site = refl
keyword_again ModeKey = refl
keyword_again TypeKey = refl
keyword_again SubstationKey = refl
keyword_again TurbineKey = refl
keyword_again BendKey = refl
keyword_again ObstacleKey = refl
keyword_again CornerKey = refl
keyword_again ChargeKey = refl
keyword_again ClosedKey = refl
keyword_again EndKey = refl

-- keywords of one text are one
pub keyword_same : (j k : Keyword) → keyword_text j ≡ keyword_text k → j ≡ k
keyword_same j k e = sym (keyword_again j) ∙ ap (λ w. keyword_from (sum w)) e ∙ keyword_again k

-- how many words follow a keyword
abbrev pub field_count : Version → Keyword → ℕ
field_count version Site = 1
field_count version ModeKey = 1
field_count One TypeKey = 2
field_count Two TypeKey = 3
field_count version SubstationKey = 5
field_count version TurbineKey = 4
field_count version BendKey = 3
field_count version ObstacleKey = 1
field_count version CornerKey = 2
field_count version ChargeKey = 3
field_count version ClosedKey = 2
field_count version EndKey = 1

-- words that say an item begin with a keyword and have its number of fields
record Begins (version : Version) (ws : List (List ℕ)) : Type 0 where
  keyword : Keyword
  ps : List (List ℕ)
  ws_are : ws ≡ keyword_text keyword ∷ ps
  fields : HaveNoEmpty ws → are_fields (field_count version keyword) ps ≡ true

full_at : (ws vs : List (List ℕ)) → ws ≡ vs → HaveNoEmpty ws → HaveNoEmpty vs
full_at ws vs e f = let P : List (List ℕ) → Type 0 = HaveNoEmpty in subst P e f

begins : (version : Version) (ws : List (List ℕ)) (other : RawItem) → HasWords version ws other → Begins version ws
begins version ws (AVersion v) h = record { keyword = Site; ps = h.0 ∷ []; ws_are = h.1; fields = full_at ws (codes "site" ∷ h.0 ∷ []) h.1 }
begins version ws (AMode m) h = record { keyword = ModeKey; ps = h.0 ∷ []; ws_are = h.1; fields = full_at ws (codes "mode" ∷ h.0 ∷ []) h.1 }
begins One ws (AType c p l) h = record { keyword = TypeKey; ps = h.0 ∷ h.1 ∷ []; ws_are = h.2; fields = full_at ws (codes "type" ∷ h.0 ∷ h.1 ∷ []) h.2 }
begins Two ws (AType c p l) h = record { keyword = TypeKey; ps = h.0 ∷ h.1 ∷ h.2 ∷ []; ws_are = h.3; fields = full_at ws (codes "type" ∷ h.0 ∷ h.1 ∷ h.2 ∷ []) h.3 }
begins version ws (APoint n x y (ATurbine p)) h = record { keyword = TurbineKey; ps = n ∷ h.0 ∷ h.1 ∷ h.2 ∷ []; ws_are = h.3; fields = full_at ws (codes "turbine" ∷ n ∷ h.0 ∷ h.1 ∷ h.2 ∷ []) h.3 }
begins version ws (APoint n x y (ASubstation f p)) h = record { keyword = SubstationKey; ps = n ∷ h.0 ∷ h.1 ∷ h.2 ∷ h.3 ∷ []; ws_are = h.4; fields = full_at ws (codes "substation" ∷ n ∷ h.0 ∷ h.1 ∷ h.2 ∷ h.3 ∷ []) h.4 }
begins version ws (APoint n x y ABend) h = record { keyword = BendKey; ps = n ∷ h.0 ∷ h.1 ∷ []; ws_are = h.2; fields = full_at ws (codes "bend" ∷ n ∷ h.0 ∷ h.1 ∷ []) h.2 }
begins version ws (AnObstacle k) h = record { keyword = ObstacleKey; ps = h.0 ∷ []; ws_are = h.1; fields = full_at ws (codes "obstacle" ∷ h.0 ∷ []) h.1 }
begins version ws (ACorner x y) h = record { keyword = CornerKey; ps = h.0 ∷ h.1 ∷ []; ws_are = h.2; fields = full_at ws (codes "corner" ∷ h.0 ∷ h.1 ∷ []) h.2 }
begins version ws (APair a b (ACharge amount)) h = record { keyword = ChargeKey; ps = a ∷ b ∷ h.0 ∷ []; ws_are = h.1; fields = full_at ws (codes "charge" ∷ a ∷ b ∷ h.0 ∷ []) h.1 }
begins version ws (APair a b AClosing) h = record { keyword = ClosedKey; ps = a ∷ b ∷ []; ws_are = h; fields = full_at ws (codes "closed" ∷ a ∷ b ∷ []) h }
begins version ws TheEnd h = record { keyword = EndKey; ps = codes "site" ∷ []; ws_are = h; fields = full_at ws (codes "end" ∷ codes "site" ∷ []) h }
begins version ws Misshapen h = absurd h
begins version ws AStray h = absurd h
begins version ws Unended h = absurd h
begins version ws Missing h = absurd h
begins version ws Overlong h = absurd h

-- a keyword with another number of fields says nothing
pub stray : (version : Version) (k : Keyword) (ps : List (List ℕ)) → are_fields (field_count version k) ps ≡ false → IsSaid version (keyword_text k ∷ ps) Stray
stray version k ps none = record {
  raw = AStray;
  held_is = refl;
  says = inr (
    refl,
    λ other full h.
        let b = begins version (keyword_text k ∷ ps) other h in
        let e = b.ws_are in
        let heads : keyword_text k ≡ keyword_text b.keyword = cc in
        let tails : ps ≡ b.ps = cc in
        let same = keyword_same k b.keyword heads in
        let yes : are_fields (field_count version k) ps ≡ true = ap (λ j. are_fields (field_count version j) ps) same ∙ ap (are_fields (field_count version b.keyword)) tails ∙ b.fields full in
        cc (none, yes),
  );
}

-- a word that is no keyword says nothing
pub unknown : (version : Version) (w : List ℕ) (ps : List (List ℕ)) → ((k : Keyword) → w ≢ keyword_text k) → IsSaid version (w ∷ ps) Stray
unknown version w ps none = record {
  raw = AStray;
  held_is = refl;
  says = inr (
    refl,
    λ other full h.
        let b = begins version (w ∷ ps) other h in
        let e = b.ws_are in
        none b.keyword (cc),
  );
}

-- what says the end
end_only : (version : Version) (ws ps : List (List ℕ)) (other : RawItem) → HasWords version ws other → ws ≡ codes "end" ∷ ps → ps ≡ codes "site" ∷ []
end_only version ws ps (AVersion v) h e = let k = h.1 in absurd (cc)
end_only version ws ps (AMode m) h e = let k = h.1 in absurd (cc)
end_only One ws ps (AType c p l) h e = let k = h.2 in absurd (cc)
end_only Two ws ps (AType c p l) h e = let k = h.3 in absurd (cc)
end_only version ws ps (APoint n x y (ATurbine p)) h e = let k = h.3 in absurd (cc)
end_only version ws ps (APoint n x y (ASubstation f p)) h e = let k = h.4 in absurd (cc)
end_only version ws ps (APoint n x y ABend) h e = let k = h.2 in absurd (cc)
end_only version ws ps (AnObstacle j) h e = let k = h.1 in absurd (cc)
end_only version ws ps (ACorner x y) h e = let k = h.2 in absurd (cc)
end_only version ws ps (APair a b (ACharge amount)) h e = let k = h.1 in absurd (cc)
end_only version ws ps (APair a b AClosing) h e = absurd (cc)
end_only version ws ps TheEnd h e = cc
end_only version ws ps Misshapen h e = absurd h
end_only version ws ps AStray h e = absurd h
end_only version ws ps Unended h e = absurd h
end_only version ws ps Missing h e = absurd h
end_only version ws ps Overlong h e = absurd h

-- `end` before another word says nothing
pub stray_end : (version : Version) (ps : List (List ℕ)) (w : List ℕ) → ps ≡ w ∷ [] → w ≢ codes "site" → IsSaid version (codes "end" ∷ ps) Stray
stray_end version ps w e differ = record {
  raw = AStray;
  held_is = refl;
  says = inr (refl, λ other full h. let k = end_only version (codes "end" ∷ ps) ps other h refl in differ (cc));
}

-- what is said of fields is said of the words behind a keyword
module _ (version : Version) (key : List ℕ) (n : ℕ) (ps ws : List (List ℕ)) (item : Item) (same : ps ≡ ws) (full : are_fields n ps ≡ true) where
  from_fields : (are_fields n ws ≡ true → IsSaid version (key ∷ ws) item) → IsSaid version (key ∷ ps) item
  from_fields f =
      let P : List (List ℕ) → Type 0 = λ vs. IsSaid version (key ∷ vs) item in
      subst P (sym same) (f (sym (ap (are_fields n) same) ∙ full))

pub said_version : (version : Version) (ps : List (List ℕ)) (w : List ℕ) {v : Option ℤ} → ps ≡ w ∷ [] → are_fields 1 ps ≡ true → ReadsAs w v → IsSaid version (codes "site" ∷ ps) (VersionItem v)
said_version version ps w {v} e f r = from_fields version (codes "site") 1 ps (w ∷ []) (VersionItem v) e f (λ g. record { raw = AVersion r.value; held_is = ap AVersion r.held_is; says = inl (g, (w, refl, r.reads)) })

pub said_mode : (version : Version) (ps : List (List ℕ)) (w : List ℕ) {m : Option Mode} → ps ≡ w ∷ [] → are_fields 1 ps ≡ true → NamesMode w m → IsSaid version (codes "mode" ∷ ps) (ModeItem m)
said_mode version ps w {m} e f r = from_fields version (codes "mode") 1 ps (w ∷ []) (ModeItem m) e f (λ g. record { raw = AMode m; held_is = refl; says = inl (g, (w, refl, r)) })

pub said_plain_type : (ps : List (List ℕ)) (u w : List ℕ) {c p : Option ℤ} → ps ≡ u ∷ w ∷ [] → are_fields 2 ps ≡ true → ReadsAs u c → ReadsAs w p → IsSaid One (codes "type" ∷ ps) (CableType c p (Some (pos 0)))
said_plain_type ps u w {c} {p} e f r s = from_fields One (codes "type") 2 ps (u ∷ w ∷ []) (CableType c p (Some (pos 0))) e f (λ g. record {
  raw = AType r.value s.value (Some (pos 0));
  held_is = ap (λ a. AType a p (Some (pos 0))) r.held_is ∙ ap (λ a. AType (held_number r.value) a (Some (pos 0))) s.held_is;
  says = inl (g, (u, w, refl, r.reads, s.reads, refl));
})

pub said_lossy_type : (ps : List (List ℕ)) (u w z : List ℕ) {c p l : Option ℤ} → ps ≡ u ∷ w ∷ z ∷ [] → are_fields 3 ps ≡ true → ReadsAs u c → ReadsAs w p → ReadsAs z l → IsSaid Two (codes "type" ∷ ps) (CableType c p l)
said_lossy_type ps u w z {c} {p} {l} e f r s t = from_fields Two (codes "type") 3 ps (u ∷ w ∷ z ∷ []) (CableType c p l) e f (λ g. record {
  raw = AType r.value s.value t.value;
  held_is = ap (λ a. AType a p l) r.held_is ∙ ap (λ a. AType (held_number r.value) a l) s.held_is ∙ ap (λ a. AType (held_number r.value) (held_number s.value) a) t.held_is;
  says = inl (g, (u, w, z, refl, r.reads, s.reads, t.reads));
})

pub said_turbine : (version : Version) (ps : List (List ℕ)) (n : Bor (List ℕ)) (u v w : List ℕ) {x y p : Option ℤ} → ps ≡ n.now ∷ u ∷ v ∷ w ∷ [] → are_fields 4 ps ≡ true → ReadsAs u x → ReadsAs v y → ReadsAs w p → IsSaid version (codes "turbine" ∷ ps) (Point n x y (Turbine p))
said_turbine version ps n u v w {x} {y} {p} e f r s t = from_fields version (codes "turbine") 4 ps (n.now ∷ u ∷ v ∷ w ∷ []) (Point n x y (Turbine p)) e f (λ g. record {
  raw = APoint n.now r.value s.value (ATurbine t.value);
  held_is = ap (λ a. APoint n.now a y (ATurbine p)) r.held_is ∙ ap (λ a. APoint n.now (held_number r.value) a (ATurbine p)) s.held_is ∙ ap (λ a. APoint n.now (held_number r.value) (held_number s.value) (ATurbine a)) t.held_is;
  says = inl (g, (u, v, w, refl, r.reads, s.reads, t.reads));
})

pub said_substation : (version : Version) (ps : List (List ℕ)) (n : Bor (List ℕ)) (u v m w : List ℕ) {x y k p : Option ℤ} → ps ≡ n.now ∷ u ∷ v ∷ m ∷ w ∷ [] → are_fields 5 ps ≡ true → ReadsAs u x → ReadsAs v y → ReadsAs m k → ReadsAs w p → IsSaid version (codes "substation" ∷ ps) (Point n x y (Substation k p))
said_substation version ps n u v m w {x} {y} {k} {p} e f r s q t = from_fields version (codes "substation") 5 ps (n.now ∷ u ∷ v ∷ m ∷ w ∷ []) (Point n x y (Substation k p)) e f (λ g. record {
  raw = APoint n.now r.value s.value (ASubstation q.value t.value);
  held_is =
      ap (λ a. APoint n.now a y (ASubstation k p)) r.held_is ∙ ap (λ a. APoint n.now (held_number r.value) a (ASubstation k p)) s.held_is
      ∙ ap (λ a. APoint n.now (held_number r.value) (held_number s.value) (ASubstation a p)) q.held_is ∙ ap (λ a. APoint n.now (held_number r.value) (held_number s.value) (ASubstation (held_number q.value) a)) t.held_is;
  says = inl (g, (u, v, m, w, refl, r.reads, s.reads, q.reads, t.reads));
})

pub said_bend : (version : Version) (ps : List (List ℕ)) (n : Bor (List ℕ)) (u v : List ℕ) {x y : Option ℤ} → ps ≡ n.now ∷ u ∷ v ∷ [] → are_fields 3 ps ≡ true → ReadsAs u x → ReadsAs v y → IsSaid version (codes "bend" ∷ ps) (Point n x y Bend)
said_bend version ps n u v {x} {y} e f r s = from_fields version (codes "bend") 3 ps (n.now ∷ u ∷ v ∷ []) (Point n x y Bend) e f (λ g. record {
  raw = APoint n.now r.value s.value ABend;
  held_is = ap (λ a. APoint n.now a y ABend) r.held_is ∙ ap (λ a. APoint n.now (held_number r.value) a ABend) s.held_is;
  says = inl (g, (u, v, refl, r.reads, s.reads));
})

pub said_obstacle : (version : Version) (ps : List (List ℕ)) (w : List ℕ) {k : Option ℤ} → ps ≡ w ∷ [] → are_fields 1 ps ≡ true → ReadsAs w k → IsSaid version (codes "obstacle" ∷ ps) (Obstacle k)
said_obstacle version ps w {k} e f r = from_fields version (codes "obstacle") 1 ps (w ∷ []) (Obstacle k) e f (λ g. record { raw = AnObstacle r.value; held_is = ap AnObstacle r.held_is; says = inl (g, (w, refl, r.reads)) })

pub said_corner : (version : Version) (ps : List (List ℕ)) (u v : List ℕ) {x y : Option ℤ} → ps ≡ u ∷ v ∷ [] → are_fields 2 ps ≡ true → ReadsAs u x → ReadsAs v y → IsSaid version (codes "corner" ∷ ps) (Corner x y)
said_corner version ps u v {x} {y} e f r s = from_fields version (codes "corner") 2 ps (u ∷ v ∷ []) (Corner x y) e f (λ g. record {
  raw = ACorner r.value s.value;
  held_is = ap (λ a. ACorner a y) r.held_is ∙ ap (λ a. ACorner (held_number r.value) a) s.held_is;
  says = inl (g, (u, v, refl, r.reads, s.reads));
})

pub said_charge : (version : Version) (ps : List (List ℕ)) (a b : Bor (List ℕ)) (w : List ℕ) {k : Option ℤ} → ps ≡ a.now ∷ b.now ∷ w ∷ [] → are_fields 3 ps ≡ true → ReadsAs w k → IsSaid version (codes "charge" ∷ ps) (Pair a b (Charge k))
said_charge version ps a b w {k} e f r = from_fields version (codes "charge") 3 ps (a.now ∷ b.now ∷ w ∷ []) (Pair a b (Charge k)) e f (λ g. record {
  raw = APair a.now b.now (ACharge r.value);
  held_is = ap (λ z. APair a.now b.now (ACharge z)) r.held_is;
  says = inl (g, (w, refl, r.reads));
})

pub said_closed : (version : Version) (ps : List (List ℕ)) (a b : Bor (List ℕ)) → ps ≡ a.now ∷ b.now ∷ [] → are_fields 2 ps ≡ true → IsSaid version (codes "closed" ∷ ps) (Pair a b Closing)
said_closed version ps a b e f = from_fields version (codes "closed") 2 ps (a.now ∷ b.now ∷ []) (Pair a b Closing) e f (λ g. record { raw = APair a.now b.now AClosing; held_is = refl; says = inl (g, refl) })

pub said_end : (version : Version) (ps : List (List ℕ)) (w : List ℕ) → ps ≡ w ∷ [] → are_fields 1 ps ≡ true → w ≡ codes "site" → IsSaid version (codes "end" ∷ ps) End
said_end version ps w e f s = from_fields version (codes "end") 1 ps (w ∷ []) End e f (λ g. record { raw = TheEnd; held_is = refl; says = inl (g, ap (λ z. codes "end" ∷ z ∷ []) s) })

-- what says something is at least one word
pub says_some : (version : Version) (ws : List (List ℕ)) (item : RawItem) → HasWords version ws item → ws ≢ []
says_some version ws item h e = let b = begins version ws item h in let f = b.ws_are in cc
