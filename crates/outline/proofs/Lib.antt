mod Outlines
